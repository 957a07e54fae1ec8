-- What the fields of a command come to outside of its functions, by the premises of the run: what is stated of the
-- system that a script runs on, beside its file tree.
use Rattle.std.specs.Prelude.{Bool, true, false, not, ◌&&◌, ◌||◌, List, [], ◌∷◌, Option, Some, None, option_map, codes}
use Rattle.std.specs.Prelude.{if◌then◌else◌}
use Rattle.std.specs.List.{find}
use Rattle.std.specs.Str.{bytes_eq}
use Rattle.script_names.specs.declared.reason.Reason.TheVariants as reason
use Rattle.script_names.specs.CommandNames.{is_one_of}
use Rattle.utility_calls.specs.declared.acts.Act.{Act}
use Rattle.utility_calls.specs.declared.acts.Act.TheVariants.{Exists, CanRun}
use Rattle.utility_calls.specs.declared.planned.Planned.{Planned}
use Rattle.utility_calls.specs.declared.planned.Planned.TheVariants.{Known, Ask, Unspecified}
use Rattle.utility_calls.specs.declared.stated_call.CallEnd.{CallEnd}
use Rattle.utility_calls.specs.declared.stated_call.CallEnd.TheVariants.{Succeeds, Fails, Asks}
use Rattle.utility_calls.specs.declared.stated_call.StatedCall.{StatedCall}
use Rattle.utility_calls.specs.StatedCalls.{has_name}
use Rattle.utility_calls.specs.Calls.{call}
use Rattle.link_walks.specs.Following.{follow}
use Rattle.debian_versions.specs.Comparisons.{comparison}
use Rattle.shell_rules.specs.declared.premises.Premises.{Premises}
use Rattle.shell_rules.specs.declared.spelled.Spelled.{Spelled}
use Rattle.shell_rules.specs.State.{Text}

-- nothing is stated
abbrev pub no_premises : Premises
no_premises = record { links = []; calls = []; runs = false; versions = false }

-- ---- which words are spelled out

-- Of a command's words, whether the first two are spelled out, from whether each word is static: it stands for its own
-- bytes, by plain and quoted parts alone.
abbrev pub spelled_by : List Bool → Spelled
spelled_by [] = record { name = false; operand = false }
spelled_by (name ∷ []) = record { name = name; operand = false }
spelled_by (name ∷ operand ∷ others) = record { name = name; operand = operand }

-- ---- how a stated call ends

-- the operand with which `command` says what a name is, and calls nothing (XCU command, `-v` and `-V`)
abbrev pub asks_of_name : List Text → Bool
asks_of_name [] = false
asks_of_name (operand ∷ others) = is_one_of operand (codes "-v" ∷ codes "-V" ∷ [])

-- Whether what is stated of a command's name speaks of the command with these fields: of `command` it is stated what
-- `command -v` and `command -V` do, where that is spelled out; with any other operand it calls something else.
abbrev pub speaks_of : Spelled → List Text → Bool
speaks_of spelled [] = false
speaks_of spelled (name ∷ operands) =
    not (bytes_eq name (codes "command")) || (spelled.operand && asks_of_name operands)

-- how a command with these fields ends, where that is stated; of a name that was computed nothing is
abbrev pub stated_end : List StatedCall → Spelled → List Text → Option CallEnd
stated_end calls spelled [] = None
stated_end calls spelled (name ∷ operands) =
    if spelled.name && speaks_of spelled (name ∷ operands)
    then option_map (λ stated. stated.end) (find (has_name name) calls) else None

-- what a call comes to that ends so: `asks` is by whether something stands at the path
abbrev pub end_plan : CallEnd → Planned
end_plan Succeeds = Known true
end_plan Fails = Known false
end_plan (Asks p) = Ask (Exists p) false

-- what a stated call comes to, and any other
abbrev pub by_end : Option CallEnd → Planned → Planned
by_end None planned = planned
by_end (Some end) planned = end_plan end

-- ---- the order of versions

-- what `dpkg --compare-versions` answers by Debian's order of versions, where it is stated that it does so, and `dpkg`
-- is spelled out
abbrev pub compared : Bool → Spelled → List Text → Option Bool
compared versions spelled fields = if versions && spelled.name then comparison fields else None

-- that answer, unless `dpkg` is a function of the script
abbrev pub unless_function : Bool → Option Bool → Option Bool
unless_function function None = None
unless_function function (Some ok) = if function then None else Some ok

-- the status of a comparison, else the later one
abbrev pub by_order : Option Bool → Planned → Planned
by_order None planned = planned
by_order (Some ok) planned = Known ok

-- ---- regular files that may be executed

-- the question whether something may be run or searched, where it is stated of regular files whether they may; another
-- act is as it is
abbrev pub act_in : Bool → Act → Act
act_in runs (CanRun p before) = CanRun p runs
act_in runs act = act

-- a plan with that question
abbrev pub runs_in : Bool → Planned → Planned
runs_in runs (Ask act negate) = Ask (act_in runs act) negate
runs_in runs planned = planned

-- ---- what the fields of a command come to

-- whether the name of a command is that of a function
abbrev pub is_functions : List Text → List Text → Bool
is_functions functions [] = false
is_functions functions (name ∷ operands) = is_one_of name functions

-- The order of versions, then the end that is stated, and then the utility. A function's name goes by the last two
-- before the function is defined (XCU 2.9.1.1 Command Search and Execution).
abbrev pub outright : Bool → Premises → Spelled → List Text → Planned
outright function premises spelled fields =
    by_order (unless_function function (compared premises.versions spelled fields))
    (by_end (stated_end premises.calls spelled fields) (call fields))

-- Of a name that was computed nothing is stated, and a function's stops the run.
abbrev pub named : Bool → Premises → Spelled → List Text → Planned
named function premises spelled fields =
    if spelled.name then outright function premises spelled fields
    else (if function then Unspecified reason.Call else call fields)

-- What a command comes to, under the premises of the run and by the names of the script's functions. The paths of its
-- acts are taken along the known links.
abbrev pub planned : Premises → List Text → Spelled → List Text → Planned
planned premises functions spelled fields =
    follow premises.links (runs_in premises.runs (named (is_functions functions fields) premises spelled fields))
