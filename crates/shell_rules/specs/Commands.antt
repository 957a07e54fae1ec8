-- Lists, and-or lists, conditions, subshells and redirections (POSIX.1-2017, XCU 2.7 Redirection, 2.8.1 Consequences
-- of Shell Errors, 2.9.2 Pipelines, 2.9.3 Lists, 2.9.4 Compound Commands; 2.14 set).
use Rattle.std.specs.Prelude.{ℕ, Bool, true, false, not, ◌&&◌, List, [], ◌∷◌, Option, Some, None, if◌then◌else◌}
use Rattle.script_names.specs.declared.reason.Reason.{Reason}
use Rattle.script_names.specs.declared.reason.Reason.TheVariants as reason
use Rattle.shell_rules.specs.State.{Text, State, Leave, Exited, Stopped, Go, Left, then_do, closed_off}
use Rattle.shell_rules.specs.State.{by_nothing, by_exit, no_value, Place, at_command, except, site_of, stopped}
use Rattle.shell_rules.specs.State.{Action, with_status, with_strict, success_if_none}

-- nothing is done, with success (XCU 2.14 colon)
abbrev pub do_skip : Action
do_skip p s = Go tt (with_status true s)

-- the run stops at the command for this reason: what it does is not specified here (where XCU 2.9.1 would search for
-- a command, or a form is outside of this subset)
abbrev pub do_stop : ℕ → Reason → Action
do_stop at reason p s = stopped reason (at_command at p) s

-- `set -e` (XCU 2.14 set): the strict flag is on, with success
abbrev pub do_strict : Action
do_strict p s = Go tt (with_status true (with_strict true s))

-- `set +e` (XCU 2.14 set): the strict flag is off, with success
abbrev pub do_lax : Action
do_lax p s = Go tt (with_status true (with_strict false s))

-- ---- the strict flag (XCU 2.14 set -e)

-- how a failure leaves the shell; in a substitution, where shells differ, the run stops. That is said of the place,
-- and not of whether output is captured
abbrev pub left_by_failure : Place → Leave
left_by_failure p = if p.inner then Stopped reason.Strict (site_of p) else Exited

-- Behind a simple command, an assignment, a call of a function or a subshell: under the strict flag a failure that is
-- not excepted ends the shell.
abbrev pub checked : Action
checked p s =
    if s.conc.strict && not s.conc.status && not p.excepted then Left (left_by_failure p) s else Go tt s

-- ---- lists and and-or lists (XCU 2.9.3 Lists)

-- commands, one after another
abbrev pub do_rest : List Action → Action
do_rest [] p s = Go tt s
do_rest (command ∷ commands) p s = then_do (command p s) (λ _ s. do_rest commands p s)

-- a list of commands has the status of its last one; a list of none succeeds
abbrev pub do_all : List Action → Action
do_all commands p s = do_rest commands p (success_if_none commands s)

-- whether a command behind `&&` or `||` is run
abbrev pub is_reached : Bool → State → Bool
is_reached and s = if and then s.conc.status else not s.conc.status

-- The further members of an and-or list, each with whether it stands behind `&&`: one that is reached is run, one that
-- is not leaves the status as it is. A failure of any but the last is excepted.
abbrev pub do_links : List (Bool × Action) → Action
do_links [] p s = Go tt s
do_links ((and, command) ∷ []) p s = if is_reached and s then command p s else Go tt s
do_links ((and, command) ∷ link ∷ links) p s =
    if is_reached and s
    then then_do (command (except p) s) (λ _ s. do_links (link ∷ links) p s)
    else do_links (link ∷ links) p s

-- an and-or list: its members from left to right, each by the status of those before it
abbrev pub do_chain : Action → List (Bool × Action) → Action
do_chain first [] p s = first p s
do_chain first (link ∷ links) p s = then_do (first (except p) s) (λ _ s. do_links (link ∷ links) p s)

-- `!` gives the other status, and excepts a failure (XCU 2.9.2 Pipelines)
abbrev pub do_not : Action → Action
do_not command p s = then_do (command (except p) s) (λ _ s. Go tt (with_status (not s.conc.status) s))

-- ---- `if` (XCU 2.9.4.4 The if Conditional Construct)

-- The body behind the first condition that succeeds, or what is run where none does. A failure of a condition is
-- excepted.
abbrev pub do_if : List (Action × Action) → Action → Action
do_if [] otherwise p s = otherwise p s
do_if ((condition, body) ∷ arms) otherwise p s =
    then_do (condition (except p) s) (λ _ s. if s.conc.status then body p s else do_if arms otherwise p s)

-- ---- subshells (XCU 2.9.4.1 Grouping Commands, 2.12 Shell Execution Environment)

-- the state behind a subshell: the variables, the arguments and the strict flag are those before it; its status, the
-- output, the tree, the trace, the acts and the turns go on
abbrev pub after_subshell : State → State → State
after_subshell outer s =
    record s { conc = record s.conc { vars = outer.conc.vars; args = outer.conc.args; strict = outer.conc.strict } }

-- A subshell runs in a copy of the variables, the arguments, the strict flag and the status. `exit` ends it; what is
-- excepted outside is excepted in it; and its failure counts as that of a simple command.
abbrev pub do_subshell : ℕ → Action → Action
do_subshell at body p s =
    then_do (closed_off by_exit no_value (after_subshell s) (body p s)) (λ _ s. checked (at_command at p) s)

-- ---- redirections (XCU 2.7 Redirection)

-- with this as the captured output; None where output is not captured
abbrev pub with_captured : Option Text → State → State
with_captured captured s = record s { conc = record s.conc { captured = captured } }

-- a command whose standard output is taken away: what it writes is not captured
abbrev pub do_quiet : Action → Action
do_quiet body p s = closed_off by_nothing no_value (with_captured s.conc.captured) (body p (with_captured None s))

-- a command whose standard error is joined to its standard output, by what is captured. While that is captured, the
-- messages of utilities would be captured too, and these differ: the run stops at the command, before its words are
-- looked at
abbrev pub joined_error : Option Text → Action → Action
joined_error None body p s = body p s
joined_error (Some text) body p s = stopped reason.Message p s

-- a command at this offset, whose standard error is joined to its standard output
abbrev pub do_error_joined : ℕ → Action → Action
do_error_joined at body p s = joined_error s.conc.captured body (at_command at p) s
