-- Simple commands: assignments, utilities, functions, and what changes the shell itself
-- (POSIX.1-2017, XCU 2.9.1 Simple Commands, 2.9.5 Function Definition Command, 2.14 Special Built-In Utilities).
use Rattle.std.specs.Prelude.{ℕ, ◌+◌, ◌-◌, ◌*◌, Bool, true, false, not, ◌&&◌, ◌||◌, nat_eq, nat_le, List, [], ◌∷◌}
use Rattle.std.specs.Prelude.{◌++◌, length, filter}
use Rattle.std.specs.Prelude.{Option, Some, None, option_map, codes, if◌then◌else◌}
use Rattle.std.specs.List.{list_any, list_all}
use Rattle.std.specs.Str.{bytes_eq}
use Rattle.std.specs.FinMap as map
use Rattle.script_names.specs.Ascii.{digit_zero, equals}
use Rattle.script_names.specs.declared.mark.Mark.{Mark}
use Rattle.script_names.specs.declared.reason.Done.{Done}
use Rattle.script_names.specs.declared.reason.Done.TheVariants as done
use Rattle.script_names.specs.declared.reason.Reason.TheVariants as reason
use Rattle.script_names.specs.CommandNames as names
use Rattle.script_names.specs.ShellNames.{is_digit, is_shell_name}
use Rattle.utility_calls.specs.declared.acts.Act.{Act}
use Rattle.utility_calls.specs.declared.planned.Planned.{Planned}
use Rattle.utility_calls.specs.declared.planned.Planned.TheVariants.{Known, Ask, Print, Change, Unspecified}
use Rattle.utility_calls.specs.Acts.{row, tree_after}
use Rattle.shell_rules.specs.declared.leave.TheConstants.{MAX_STATUS}
use Rattle.shell_rules.specs.declared.spelled.Spelled.{Spelled}
use Rattle.shell_rules.specs.State.{Text, State, Leave, Returned, Exited, Go, Left, then_do, closed_off}
use Rattle.shell_rules.specs.State.{by_return, no_value, Place, at_command, site_of, stopped, Doing, Action, Funs}
use Rattle.shell_rules.specs.State.{with_status, with_arguments}
use Rattle.shell_rules.specs.Expansion.{do_short, do_fields}
use Rattle.shell_rules.specs.Commands.{checked}
use Rattle.shell_rules.specs.Planned.{spelled_by, planned}
use Rattle.shell_rules.specs.Loops.{assign}

-- ---- acts on the tree

-- the mark of an act: where it is done, and by which row
abbrev pub mark_of : Act → Place → State → Mark
mark_of act p s = record { site = site_of p; row = (row act s.tree).number }

-- an act adds its mark to the trace and itself to the acts, and leaves its tree
abbrev pub acted : Act → Place → State → State
acted act p s =
    record s { tree = tree_after act s.tree; trace = s.trace ++ mark_of act p s ∷ []; acts = s.acts ++ act ∷ [] }

-- what an act answers; one that stops ends the run at the command
abbrev pub answered : Done → Doing Bool
answered done.Ok p s = Go true s
answered done.Failed p s = Go false s
answered (done.Stopped reason) p s = stopped reason p s

-- an act of a utility is done on the tree (XCU 2.9.1.1 Command Search and Execution; XCU 4 Utilities)
abbrev pub do_act : Act → Doing Bool
do_act act p s = answered (row act s.tree).answer p (acted act p s)

-- a list of acts, up to its first failure: what one operand of a utility comes to (XCU 4)
abbrev pub do_acts : List Act → Doing Bool
do_acts [] p s = Go true s
do_acts (act ∷ acts) p s = then_do (do_act act p s) (λ ok s. if ok then do_acts acts p s else Go false s)

-- lists of acts, one for each operand: where one fails the next is still done. `all` is whether none failed so far
abbrev pub do_operands : Bool → List (List Act) → Doing Bool
do_operands all [] p s = Go all s
do_operands all (acts ∷ lists) p s = then_do (do_acts acts p s) (λ ok s. do_operands (all && ok) lists p s)

-- ---- utilities (XCU 2.9.1 Simple Commands)

-- what is written is captured where there is a substitution round the command, and else nothing is kept of it
abbrev pub printed : Text → State → State
printed text s = record s { conc = record s.conc { captured = option_map (λ before. before ++ text) s.conc.captured } }

-- the answer of a question, or its opposite
abbrev pub negated_if : Bool → Bool → Bool
negated_if true ok = not ok
negated_if false ok = ok

-- a planned call: its status, the answer of its act, what it writes, its changes, or a reason to stop
abbrev pub do_planned : Planned → Action
do_planned (Known ok) p s = Go tt (with_status ok s)
do_planned (Ask act negate) p s = then_do (do_act act p s) (λ ok s. Go tt (with_status (negated_if negate ok) s))
do_planned (Print text) p s = Go tt (with_status true (printed text s))
do_planned (Change lists) p s = then_do (do_operands true lists p s) (λ ok s. Go tt (with_status ok s))
do_planned (Unspecified reason) p s = stopped reason p s

-- The fields of a command, of whose words the first two are spelled out or not. A command without fields has the
-- status of its last command substitution, or success. Another does what it comes to under the premises of the run: a
-- name that is neither stated nor a utility's stops it, also one of `special_names` that was computed, and so does the
-- name of a function that was computed.
abbrev pub do_call_of : Spelled → List Text → Action
do_call_of spelled [] p s = Go tt (with_status s.substituted s)
do_call_of spelled (name ∷ words) p s =
    do_planned (planned s.conc.premises p.functions spelled (name ∷ words)) p s

-- the names of the utilities that change the shell itself: of the special built-ins all but `:`
abbrev pub special_names : List Text
special_names = filter (λ name. not (bytes_eq name (codes ":"))) names.special_names

-- no command substitution of this command so far
abbrev pub no_substitution : State → State
no_substitution s = record s { substituted = true }

-- A simple command, with each word whether it is static: its words are expanded to fields, these come to a call, and a
-- failure counts.
abbrev pub do_call : ℕ → List Bool → List (Doing (List Text)) → Action
do_call at static words p s =
    let q : Place = at_command at p in
    then_do (do_fields words q (no_substitution s)) (λ fields s.
    then_do (do_call_of (spelled_by static) fields q s) (λ _ s. checked q s))

-- ---- assignments (XCU 2.9.1 Simple Commands)

-- assignments, one after another: each value is one string, and takes effect before the next one is expanded
abbrev pub do_assignments : List (Text × Doing Text) → Action
do_assignments [] p s = Go tt s
do_assignments ((name, value) ∷ sets) p s =
    then_do (do_short value p s) (λ text s. do_assignments sets p (assign name text s))

-- a command of assignments alone has the status of its last command substitution, or success
abbrev pub do_set : ℕ → List (Text × Doing Text) → Action
do_set at sets p s =
    let q : Place = at_command at p in
    then_do (do_assignments sets q (no_substitution s)) (λ _ s. checked q (with_status s.substituted s))

-- ---- functions (XCU 2.9.5 Function Definition Command)

-- the function of a name: the latest that was defined
abbrev pub found : Text → Funs → Option Action
found name [] = None
found name ((other, body) ∷ f) = if bytes_eq other name then Some body else found name f

-- the body of a function, which has these arguments; `return` ends it, and the arguments are put back
abbrev pub do_body : Option Action → List Text → Action
do_body None fields p s = stopped reason.Call p s
do_body (Some body) fields p s =
    closed_off by_return no_value (with_arguments s.conc.args) (body p (with_arguments fields s))

-- A call of a function. Its body shares the variables, and a failure in it is excepted where the call is. The call
-- counts as a simple command.
abbrev pub do_function : ℕ → Option Action → List (Doing (List Text)) → Action
do_function at body words p s =
    let q : Place = at_command at p in
    then_do (do_fields words q s) (λ fields s. then_do (do_body body fields q s) (λ _ s. checked q s))

-- ---- `exit` and `return` (XCU 2.14 exit, return)

-- the number of some digits, behind those that were read
abbrev pub number_behind : ℕ → Text → ℕ
number_behind n [] = n
number_behind n (b ∷ rest) = number_behind (n * 10 + (b - digit_zero)) rest

-- a status: 1 to 3 digits, at most MAX_STATUS
abbrev pub is_status : Text → Bool
is_status text =
    nat_le 1 (length text) && nat_le (length text) 3 && list_all is_digit text
    && nat_le (number_behind 0 text) MAX_STATUS

-- without an operand the status is kept, and with one that is a status it is a success for 0 and else a failure;
-- anything else stops the run
abbrev pub leave_with : Leave → List Text → Action
leave_with how [] p s = Left how s
leave_with how (text ∷ []) p s =
    if is_status text then Left how (with_status (nat_eq (number_behind 0 text) 0) s) else stopped reason.Status p s
leave_with how (text ∷ other ∷ more) p s = stopped reason.Status p s

-- what both do with the fields of their words
abbrev pub do_leave : Leave → List (Doing (List Text)) → Action
do_leave how words p s = then_do (do_fields words p s) (λ fields s. leave_with how fields p s)

-- `exit` ends the shell, a subshell or a command substitution
abbrev pub do_exit : ℕ → List (Doing (List Text)) → Action
do_exit at words p s = do_leave Exited words (at_command at p) s

-- `return` ends a function
abbrev pub do_return : ℕ → List (Doing (List Text)) → Action
do_return at words p s = do_leave Returned words (at_command at p) s

-- ---- `export` and `unset` (XCU 2.14 export, unset)

-- a name whose variable may be changed: any but IFS
abbrev pub is_changeable : Text → Bool
is_changeable name = is_shell_name name && not (bytes_eq name (codes "IFS"))

-- a byte before the first `=`, and what the rest is cut into
abbrev pub before_cut : ℕ → Text × Option Text → Text × Option Text
before_cut b cut = (b ∷ cut.0, cut.1)

-- a field cut at its first `=`: what stands before it, and what stands behind it where there is one
abbrev pub cut_at_equals : Text → Text × Option Text
cut_at_equals [] = ([], None)
cut_at_equals (b ∷ rest) = if nat_eq b equals then ([], Some rest) else before_cut b (cut_at_equals rest)

-- a variable gets a value where there is one
abbrev pub assign_some : Text → Option Text → State → State
assign_some name None s = s
assign_some name (Some value) s = assign name value s

-- an operand of `export`, NAME or NAME=VALUE; any other is not specified here
abbrev pub export_one : Text × Option Text → Action
export_one operand p s =
    if is_changeable operand.0 then Go tt (assign_some operand.0 operand.1 s) else stopped reason.Call p s

-- the operands of `export`, in order
abbrev pub export_each : List Text → Action
export_each [] p s = Go tt s
export_each (field ∷ fields) p s = then_do (export_one (cut_at_equals field) p s) (λ _ s. export_each fields p s)

-- `export` gives the variables their values, with success: that they are handed on to utilities is not seen
abbrev pub do_export : ℕ → List (Doing (List Text)) → Action
do_export at words p s =
    let q : Place = at_command at p in
    then_do (do_fields words q s) (λ fields s.
    then_do (export_each fields q s) (λ _ s. Go tt (with_status true s)))

-- a variable is taken away
abbrev pub unassign : Text → State → State
unassign name s = record s { conc = record s.conc { vars = map.remove s.conc.vars name } }

-- an operand of `unset`, a NAME; any other, and the name of a function of the script, is not specified here
abbrev pub unset_one : Text → Action
unset_one name p s =
    if is_changeable name && not (list_any (bytes_eq name) p.functions)
    then Go tt (unassign name s) else stopped reason.Call p s

-- the operands of `unset`, in order
abbrev pub unset_each : List Text → Action
unset_each [] p s = Go tt s
unset_each (field ∷ fields) p s = then_do (unset_one field p s) (λ _ s. unset_each fields p s)

-- `unset` takes the variables away, with success
abbrev pub do_unset : ℕ → List (Doing (List Text)) → Action
do_unset at words p s =
    let q : Place = at_command at p in
    then_do (do_fields words q s) (λ fields s.
    then_do (unset_each fields q s) (λ _ s. Go tt (with_status true s)))
