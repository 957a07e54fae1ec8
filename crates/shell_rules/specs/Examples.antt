-- Worked examples of the rules: short scripts, each with its end and the rows of its acts by hand.
use Rattle.std.specs.Prelude.{◌≡◌, ℕ, Bool, true, false, List, [], ◌∷◌, map, Some, None, codes}
use Rattle.std.specs.FinMap as env
use Rattle.script_names.specs.declared.mark.Site.{Site}
use Rattle.script_names.specs.declared.reason.Reason.{Reason}
use Rattle.script_names.specs.declared.reason.Reason.TheVariants as reason
use Rattle.script_names.specs.Paths.{PathParts}
use Rattle.feature_trees.specs.declared.value.Value.TheVariants as value
use Rattle.utility_calls.specs.declared.acts.Act.TheVariants.{Exists, IsDir, CanRun, MakeDir}
use Rattle.utility_calls.specs.declared.planned.Planned.{Planned}
use Rattle.utility_calls.specs.declared.planned.Planned.TheVariants.{Ask, Change}
use Rattle.utility_calls.specs.declared.stated_call.CallEnd.{CallEnd}
use Rattle.utility_calls.specs.declared.stated_call.CallEnd.TheVariants.{Succeeds, Fails, Asks}
use Rattle.shell_rules.specs.declared.premises.Premises.{Premises}
use Rattle.shell_rules.specs.declared.state.Conc.{Conc}
use Rattle.shell_rules.specs.declared.run.End.{End}
use Rattle.shell_rules.specs.declared.run.End.TheVariants.{Status, Stopped, Bound}
use Rattle.shell_rules.specs.State.{Text, Doing, Action}
use Rattle.shell_rules.specs.Expansion.{do_literal, do_variable, do_default, do_join, do_output}
use Rattle.shell_rules.specs.Expansion.{do_plain, do_quoted, do_split, do_word}
use Rattle.shell_rules.specs.Commands.{do_skip, do_strict, do_all, do_chain, do_not, do_if, do_subshell, do_quiet}
use Rattle.shell_rules.specs.Commands.{do_error_joined}
use Rattle.shell_rules.specs.Loops.{do_break, do_continue, do_for, do_while}
use Rattle.shell_rules.specs.Cases.{do_case}
use Rattle.shell_rules.specs.Planned.{no_premises, spelled_by, planned}
use Rattle.shell_rules.specs.Calls.{do_call, do_set, do_function, do_exit, do_return, do_export, do_unset}
use Rattle.shell_rules.specs.Whole.{Ended, whole_run}

-- ---- commands; each begins at the offset that is its number here

-- a word: whether it is static, and its fields
abbrev pub Word : Type 0
Word = Bool × Doing (List Text)

-- a word of plain text
abbrev pub word : Text → Word
word text = (true, do_word (do_plain (do_literal text) ∷ []))

-- a quoted text
abbrev pub quoted : Text → Word
quoted text = (true, do_word (do_quoted (do_literal text) ∷ []))

-- a computed string outside quotes, which is cut at blanks
abbrev pub unquoted : Doing Text → Word
unquoted string = (false, do_word (do_split string ∷ []))

-- a computed string in double quotes
abbrev pub in_quotes : Doing Text → Word
in_quotes string = (false, do_word (do_quoted string ∷ []))

-- the fields of words
abbrev pub fields : List Word → List (Doing (List Text))
fields = map (λ (one : Word). one.1)

-- a simple command of these words
abbrev pub command : ℕ → List Word → Action
command at words = do_call at (map (λ (one : Word). one.0) words) (fields words)

-- a command that is spelled out: its name, and its operands
abbrev pub spelled_out : ℕ → Text → List Text → Action
spelled_out at name operands = command at (word name ∷ map word operands)

-- a command with a name that is computed: `x=NAME; $x`, and its operands
abbrev pub computed : ℕ → Text → List Text → Action
computed at name operands = command at (unquoted (do_literal name) ∷ map word operands)

-- `true`
abbrev pub succeeds : Action
succeeds = spelled_out 1 (codes "true") []

-- `false`
abbrev pub fails : Action
fails = spelled_out 2 (codes "false") []

-- `echo WORD`
abbrev pub echoes : Text → Action
echoes text = spelled_out 3 (codes "echo") (text ∷ [])

-- `mkdir WORD`
abbrev pub makes : Text → Action
makes text = spelled_out 4 (codes "mkdir") (text ∷ [])

-- `test WORD ..`
abbrev pub tests : List Word → Action
tests words = command 5 (word (codes "test") ∷ words)

-- `x=STRING`
abbrev pub sets : Doing Text → Action
sets string = do_set 6 ((codes "x", string) ∷ [])

-- `exit`
abbrev pub exits : Action
exits = do_exit 7 []

-- `exit WORD`
abbrev pub exits_with : Text → Action
exits_with text = do_exit 7 (fields (word text ∷ []))

-- commands, one after another
abbrev pub two : Action → Action → Action
two first second = do_all (first ∷ second ∷ [])

-- `first && second`
abbrev pub both : Action → Action → Action
both first second = do_chain first ((true, second) ∷ [])

-- `first || second`
abbrev pub either : Action → Action → Action
either first second = do_chain first ((false, second) ∷ [])

-- `( body )`
abbrev pub sub : Action → Action
sub body = do_subshell 8 body

-- a call of a function with this body
abbrev pub calls : Action → Action
calls body = do_function 9 (Some body) (fields (word (codes "f") ∷ []))

-- `while condition; do body; done`
abbrev pub while_loop : Action → Action → Action
while_loop condition body = do_while 10 condition body

-- `for x in WORD ..; do body; done`
abbrev pub for_loop : List Word → Action → Action
for_loop words body = do_for 11 (codes "x") (fields words) body

-- `case STRING in PATTERN) exit 0;; esac; false`
abbrev pub case_of : Doing Text → List (List (Doing Text)) → Action
case_of string patterns =
    do_case 12 string
    (map (λ strings. (map (λ one. do_plain one ∷ []) strings, exits_with (codes "0"))) patterns)

-- `exit 0` where the string is the text, else `false`
abbrev pub is_text : Doing Text → Text → Action
is_text string text = two (case_of string ((do_literal text ∷ []) ∷ [])) fails

-- ---- runs

-- the shell before a run, with or without `set -e`, with so many turns, and under these premises
abbrev pub shell : Bool → ℕ → Premises → Conc
shell strict turns premises = record {
  vars = env.empty;
  args = [];
  strict = strict;
  status = true;
  captured = None;
  turns = turns;
  premises = premises;
}

-- a script; whether `set -e` holds; the turns; the premises; how it ends, in step 1 and from an empty tree; the rows of
-- its acts
pub record Example : Type 0 where
  pub body : Action
  pub strict : Bool
  pub turns : ℕ
  pub premises : Premises
  pub end : End
  pub rows : List ℕ

-- the names of the script's functions, of which one is that of a utility
abbrev pub functions : List Text
functions = codes "f" ∷ codes "rmdir" ∷ []

-- the run of an example
abbrev pub run_of : Example → Ended
run_of e = whole_run e.body 1 functions (shell e.strict e.turns e.premises) (value.Dir []) []

-- what an example comes to: its end, and the rows of its acts
abbrev pub comes : Example → End × List ℕ
comes e = ((run_of e).end, map (λ mark. mark.row) (run_of e).trace)

-- what an example is to come to
abbrev pub wanted : Example → End × List ℕ
wanted e = (e.end, e.rows)

-- the site of the command with this number
abbrev pub site : ℕ → Site
site at = record { step = 1; at = at }

-- an end for this reason at the command with this number
abbrev pub stops : Reason → ℕ → End
stops why at = Stopped why (site at)

-- a script with acts, without turns, under premises
abbrev pub under : Premises → Action → End → List ℕ → Example
under premises body end rows =
    record { body = body; strict = false; turns = 0; premises = premises; end = end; rows = rows }

-- where nothing is stated
abbrev pub acting : Action → End → List ℕ → Example
acting = under no_premises

-- without an act
abbrev pub plainly : Action → End → Example
plainly body end = acting body end []

-- under `set -e`
abbrev pub strictly : Action → End → Example
strictly body end = record (plainly body end) { strict = true }

-- with turns
abbrev pub with_turns : ℕ → Action → End → Example
with_turns turns body end = record (plainly body end) { turns = turns }

-- ---- premises

-- this call is stated
abbrev pub stating : Text → CallEnd → Premises
stating name end = record no_premises { calls = record { name = name; end = end } ∷ [] }

-- the path of a name in the root
abbrev pub in_root : Text → PathParts
in_root name = record { names = name ∷ []; slash = false }

-- the path of the root
abbrev pub root : PathParts
root = record { names = []; slash = false }

-- `/l` is a link that leads to `/a`
abbrev pub linking : Premises
linking = record no_premises {
  links = record { at = in_root (codes "l"); target = codes "a"; place = in_root (codes "a") } ∷ [];
}

-- regular files may be executed
abbrev pub executing : Premises
executing = record no_premises { runs = true }

-- Debian's order of versions answers
abbrev pub ordered : Premises
ordered = record no_premises { versions = true }

-- the operands `--compare-versions 1 lt 2`
abbrev pub older : List Text
older = codes "--compare-versions" ∷ codes "1" ∷ codes "lt" ∷ codes "2" ∷ []

-- ---- the examples

-- `set -e` (XCU 2.14 set)
abbrev pub strict_examples : List Example
strict_examples =
    -- false; true, with `set -e` and without
    strictly (two fails succeeds) (Status false)
    ∷ plainly (two fails succeeds) (Status true)
    -- if false; then :; fi
    ∷ strictly (do_if ((fails, do_skip) ∷ []) do_skip) (Status true)
    -- ! true; true
    ∷ strictly (two (do_not succeeds) succeeds) (Status true)
    -- false && true; true; and true && false; true
    ∷ strictly (two (both fails succeeds) succeeds) (Status true)
    ∷ strictly (two (both succeeds fails) succeeds) (Status false)
    -- while false; do :; done
    ∷ strictly (while_loop fails do_skip) (Status true)
    -- (false); true; and (false) || true
    ∷ strictly (two (sub fails) succeeds) (Status false)
    ∷ strictly (either (sub fails) succeeds) (Status true)
    -- (false; true) || false: what is excepted outside is excepted in the subshell
    ∷ strictly (either (sub (two fails succeeds)) fails) (Status true)
    -- f() { false; true; }; f; and f || false
    ∷ strictly (calls (two fails succeeds)) (Status false)
    ∷ strictly (either (calls (two fails succeeds)) fails) (Status true)
    -- f() { ! true; }; f; true: a call that fails ends the shell
    ∷ strictly (two (calls (do_not succeeds)) succeeds) (Status false)
    -- x=$(false), x=$(false; true) || true, x=$(false || true)
    ∷ strictly (sets (do_output fails)) (stops reason.Strict 2)
    ∷ strictly (either (sets (do_output (two fails succeeds))) succeeds) (stops reason.Strict 2)
    ∷ strictly (sets (do_output (either fails succeeds))) (Status true)
    -- x=$(! true); true: an assignment that fails ends the shell
    ∷ strictly (two (sets (do_output (do_not succeeds))) succeeds) (Status false)
    -- (set -e); false; true: the flag of a subshell does not come out
    ∷ plainly (do_all (sub do_strict ∷ fails ∷ succeeds ∷ [])) (Status true)
    ∷ plainly (do_all (do_strict ∷ fails ∷ succeeds ∷ [])) (Status false)
    ∷ []

-- the status of what is no utility
abbrev pub status_examples : List Example
status_examples =
    -- false; exit; and false; exit 0, exit 3, exit 00, exit 256, exit x, exit 0001
    plainly (two fails exits) (Status false)
    ∷ plainly (two fails (exits_with (codes "0"))) (Status true)
    ∷ plainly (exits_with (codes "3")) (Status false)
    ∷ plainly (two fails (exits_with (codes "00"))) (Status true)
    ∷ plainly (exits_with (codes "256")) (stops reason.Status 7)
    ∷ plainly (exits_with (codes "x")) (stops reason.Status 7)
    ∷ plainly (exits_with (codes "0001")) (stops reason.Status 7)
    -- false; x=$(exit): a substitution begins with the status before its command
    ∷ plainly (two fails (sets (do_output exits))) (Status false)
    -- false; x=
    ∷ plainly (two fails (sets (do_literal []))) (Status true)
    -- x=$(false)$(true); and x=$(true)$(false)
    ∷ plainly (sets (do_join (do_output fails ∷ do_output succeeds ∷ []))) (Status true)
    ∷ plainly (sets (do_join (do_output succeeds ∷ do_output fails ∷ []))) (Status false)
    -- $(false); and true $(false)
    ∷ plainly (command 1 (unquoted (do_output fails) ∷ [])) (Status false)
    ∷ plainly (command 1 (word (codes "true") ∷ unquoted (do_output fails) ∷ [])) (Status true)
    -- false; ( exit ); and ( exit 1 ); true
    ∷ plainly (two fails (sub exits)) (Status false)
    ∷ plainly (two (sub (exits_with (codes "1"))) succeeds) (Status true)
    -- f() { exit 0; }; f; false; and f() { return; }; false; f
    ∷ plainly (two (calls (exits_with (codes "0"))) fails) (Status true)
    ∷ plainly (two fails (calls (do_return 7 []))) (Status false)
    -- if false; then :; else exit; fi
    ∷ plainly (do_if ((fails, do_skip) ∷ []) exits) (Status false)
    -- false; case a in b) exit 0;; esac
    ∷ plainly (two fails (case_of (do_literal (codes "a")) ((do_literal (codes "b") ∷ []) ∷ []))) (Status true)
    ∷ []

-- loops (XCU 2.9.4.2, 2.9.4.5)
abbrev pub loop_examples : List Example
loop_examples =
    -- while true; do :; done; with no turn, and with three
    with_turns 0 (while_loop succeeds do_skip) (Bound (site 10))
    ∷ with_turns 3 (while_loop succeeds do_skip) (Bound (site 10))
    -- while true; do false; break; done: `break` succeeds
    ∷ with_turns 1 (while_loop succeeds (two fails do_break)) (Status true)
    -- while continue; do :; done, and while break; do :; done
    ∷ with_turns 2 (while_loop do_continue do_skip) (Bound (site 10))
    ∷ with_turns 0 (while_loop do_break do_skip) (Status true)
    -- for x in a b; do continue; done; with one turn, and with two
    ∷ with_turns 1 (for_loop (word (codes "a") ∷ word (codes "b") ∷ []) do_continue) (Bound (site 11))
    ∷ with_turns 2 (for_loop (word (codes "a") ∷ word (codes "b") ∷ []) do_continue) (Status true)
    -- for x in a b; do break; done; and for x in a; do false; done
    ∷ with_turns 1 (for_loop (word (codes "a") ∷ word (codes "b") ∷ []) do_break) (Status true)
    ∷ with_turns 1 (for_loop (word (codes "a") ∷ []) fails) (Status false)
    -- false; for x in a; do exit; done; and false; for x in; do exit; done
    ∷ with_turns 1 (two fails (for_loop (word (codes "a") ∷ []) exits)) (Status false)
    ∷ with_turns 0 (two fails (for_loop [] exits)) (Status true)
    -- `break` leaves one loop: for x in a b; do while true; do break; done; done
    ∷ with_turns 4 (for_loop (word (codes "a") ∷ word (codes "b") ∷ []) (while_loop succeeds do_break)) (Status true)
    ∷ with_turns 3 (for_loop (word (codes "a") ∷ word (codes "b") ∷ []) (while_loop succeeds do_break))
    (Bound (site 10))
    ∷ []

-- words and redirections (XCU 2.6, 2.7)
abbrev pub word_examples : List Example
word_examples =
    -- what $(echo a), $(echo a; echo), $( (echo a) ), $(echo a >/dev/null) give
    plainly (is_text (do_output (echoes (codes "a"))) (codes "a")) (Status true)
    ∷ plainly (is_text (do_output (two (echoes (codes "a")) (echoes []))) (codes "a")) (Status true)
    ∷ plainly (is_text (do_output (two (echoes []) (echoes (codes "a")))) (codes "a")) (Status false)
    ∷ plainly (is_text (do_output (sub (echoes (codes "a")))) (codes "a")) (Status true)
    ∷ plainly (is_text (do_output (do_quiet (echoes (codes "a")))) []) (Status true)
    ∷ plainly (is_text (do_output (two (do_quiet (echoes (codes "a"))) (echoes (codes "b")))) (codes "b"))
    (Status true)
    -- test -n $(true), and test -n "$(true)"
    ∷ plainly (tests (word (codes "-n") ∷ unquoted (do_output succeeds) ∷ [])) (Status true)
    ∷ plainly (tests (word (codes "-n") ∷ in_quotes (do_output succeeds) ∷ [])) (Status false)
    -- test *, and test "*"
    ∷ plainly (tests (word (codes "*") ∷ [])) (stops reason.Glob 5)
    ∷ plainly (tests (quoted (codes "*") ∷ [])) (Status true)
    -- test $PWD, test ${PWD:-a}
    ∷ plainly (tests (unquoted (do_variable (codes "PWD")) ∷ [])) (stops reason.Call 5)
    ∷ plainly (tests (unquoted (do_default (do_variable (codes "PWD")) (codes "a")) ∷ [])) (stops reason.Call 5)
    -- test ${x:-}, and test ${x:-a}, of an empty string
    ∷ plainly (tests (in_quotes (do_default (do_literal []) []) ∷ [])) (Status false)
    ∷ plainly (tests (in_quotes (do_default (do_literal []) (codes "a")) ∷ [])) (Status true)
    -- $name exit with a name that is computed
    ∷ plainly (computed 1 (codes "exit") []) (stops reason.Call 1)
    -- true 2>&1; x=$(true 2>&1); x=$(true >/dev/null 2>&1); x=$(test $PWD 2>&1)
    ∷ plainly (do_error_joined 13 succeeds) (Status true)
    ∷ plainly (sets (do_output (do_error_joined 13 succeeds))) (stops reason.Message 13)
    ∷ plainly (sets (do_output (do_quiet (do_error_joined 13 succeeds)))) (Status true)
    ∷ plainly (sets (do_output (do_error_joined 13 (tests (unquoted (do_variable (codes "PWD")) ∷ [])))))
    (stops reason.Message 13)
    -- unset f, of a function; unset x; unset IFS; export x=1; export 1x; export IFS=a
    ∷ plainly (do_unset 14 (fields (word (codes "f") ∷ []))) (stops reason.Call 14)
    ∷ plainly (two fails (do_unset 14 (fields (word (codes "x") ∷ [])))) (Status true)
    ∷ plainly (do_unset 14 (fields (word (codes "IFS") ∷ []))) (stops reason.Call 14)
    ∷ plainly (two fails (do_export 14 (fields (word (codes "x=1") ∷ [])))) (Status true)
    ∷ plainly (do_export 14 (fields (word (codes "1x") ∷ []))) (stops reason.Call 14)
    ∷ plainly (do_export 14 (fields (word (codes "IFS=a") ∷ []))) (stops reason.Call 14)
    ∷ []

-- acts
abbrev pub act_examples : List Example
act_examples =
    -- mkdir /a
    acting (makes (codes "/a")) (Status true) (68 ∷ [])
    -- mkdir /a/b /c: an operand that fails stops no other, and the call fails
    ∷ acting (spelled_out 4 (codes "mkdir") (codes "/a/b" ∷ codes "/c" ∷ []))
    (Status false) (66 ∷ 68 ∷ [])
    -- mkdir -p /a
    ∷ acting (spelled_out 4 (codes "mkdir") (codes "-p" ∷ codes "/a" ∷ [])) (Status true) (68 ∷ [])
    -- test -d /a; and test ! -d /a
    ∷ acting (tests (word (codes "-d") ∷ word (codes "/a") ∷ [])) (Status false) (66 ∷ [])
    ∷ acting (tests (word (codes "!") ∷ word (codes "-d") ∷ word (codes "/a") ∷ [])) (Status true) (66 ∷ [])
    ∷ []

-- the order in which things are done
abbrev pub order_examples : List Example
order_examples =
    -- mkdir /a ""; a reason stops the call before any act
    acting (command 4 (word (codes "mkdir") ∷ word (codes "/a") ∷ quoted [] ∷ []))
    (stops reason.Empty 4) []
    -- test * $(mkdir /a), and test $(mkdir /a) *: each word is cut before the next one is expanded
    ∷ acting (tests (word (codes "*") ∷ unquoted (do_output (makes (codes "/a"))) ∷ [])) (stops reason.Glob 5) []
    ∷ acting (tests (unquoted (do_output (makes (codes "/a"))) ∷ word (codes "*") ∷ [])) (stops reason.Glob 5)
    (68 ∷ [])
    -- the acts before a stop are done: x=$(mkdir /a)$PWD
    ∷ acting (sets (do_join (do_output (makes (codes "/a")) ∷ do_variable (codes "PWD") ∷ []))) (stops reason.Call 6)
    (68 ∷ [])
    ∷ []

-- `case` (XCU 2.9.4.3)
abbrev pub case_examples : List Example
case_examples =
    -- case a in a) exit 0;; $(mkdir /a)) exit 0;; esac, and case a in b|$(mkdir /a)) exit 0;; esac
    acting
    (case_of (do_literal (codes "a")) ((do_literal (codes "a") ∷ []) ∷ (do_output (makes (codes "/a")) ∷ []) ∷ []))
    (Status true) []
    ∷ acting (case_of (do_literal (codes "a")) ((do_literal (codes "b") ∷ do_output (makes (codes "/a")) ∷ []) ∷ []))
    (Status true) (68 ∷ [])
    -- case a in [^b]) exit 0;; esac; and case a in a) exit 0;; [^b]) exit 0;; esac
    ∷ acting (case_of (do_literal (codes "a")) ((do_literal (codes "[^b]") ∷ []) ∷ [])) (stops reason.Pattern 12) []
    ∷ acting (case_of (do_literal (codes "a")) ((do_literal (codes "a") ∷ []) ∷ (do_literal (codes "[^b]") ∷ []) ∷ []))
    (Status true) []
    -- case ab in ?*) exit 0;; esac; false
    ∷ acting (is_text (do_literal (codes "ab")) (codes "?*")) (Status true) []
    ∷ acting (is_text (do_literal (codes "ab")) (codes "?")) (Status false) []
    ∷ []

-- stated calls
abbrev pub stated_examples : List Example
stated_examples =
    -- `call tool ok`: tool a; tool, quoted; x=tool; $x
    under (stating (codes "tool") Succeeds) (spelled_out 1 (codes "tool") (codes "a" ∷ [])) (Status true) []
    ∷ under (stating (codes "tool") Succeeds) (command 1 (quoted (codes "tool") ∷ [])) (Status true) []
    ∷ under (stating (codes "tool") Succeeds) (computed 1 (codes "tool") []) (stops reason.Call 1) []
    -- `call tool fails`: tool; and another name
    ∷ under (stating (codes "tool") Fails) (spelled_out 1 (codes "tool") []) (Status false) []
    ∷ under (stating (codes "tool") Fails) (spelled_out 1 (codes "other") []) (stops reason.Call 1) []
    -- `call tool asks /a`, and `call tool asks /`: tool
    ∷ under (stating (codes "tool") (Asks (in_root (codes "a")))) (spelled_out 1 (codes "tool") []) (Status false)
    (66 ∷ [])
    ∷ under (stating (codes "tool") (Asks root)) (spelled_out 1 (codes "tool") []) (Status true) (67 ∷ [])
    -- `call command ok`: command -v rm; command -V rm; command rm /a; x=-v; command $x rm; command
    ∷ under (stating (codes "command") Succeeds) (spelled_out 1 (codes "command") (codes "-v" ∷ codes "rm" ∷ []))
    (Status true) []
    ∷ under (stating (codes "command") Succeeds) (spelled_out 1 (codes "command") (codes "-V" ∷ codes "rm" ∷ []))
    (Status true) []
    ∷ under (stating (codes "command") Succeeds) (spelled_out 1 (codes "command") (codes "rm" ∷ codes "/a" ∷ []))
    (stops reason.Call 1) []
    ∷ under (stating (codes "command") Succeeds)
    (command 1 (word (codes "command") ∷ unquoted (do_literal (codes "-v")) ∷ word (codes "rm") ∷ []))
    (stops reason.Call 1) []
    ∷ under (stating (codes "command") Succeeds) (spelled_out 1 (codes "command") []) (stops reason.Call 1) []
    -- `call f ok`, of a function of the script that is not defined so far: f; x=f; $x; and of one that has a utility's
    -- name: rmdir /a; x=rmdir; $x /a
    ∷ under (stating (codes "f") Succeeds) (spelled_out 1 (codes "f") []) (Status true) []
    ∷ under (stating (codes "f") Succeeds) (computed 1 (codes "f") []) (stops reason.Call 1) []
    ∷ acting (spelled_out 1 (codes "rmdir") (codes "/a" ∷ [])) (Status false) (66 ∷ [])
    ∷ acting (computed 1 (codes "rmdir") (codes "/a" ∷ [])) (stops reason.Call 1) []
    ∷ []

-- the order of versions
abbrev pub version_examples : List Example
version_examples =
    -- dpkg --compare-versions 1 lt 2, by the order of versions, with a name that is computed, and without that order
    under ordered (spelled_out 1 (codes "dpkg") older) (Status true) []
    ∷ under ordered (computed 1 (codes "dpkg") older) (stops reason.Call 1) []
    ∷ plainly (spelled_out 1 (codes "dpkg") older) (stops reason.Call 1)
    -- a stated `dpkg` answers where the order of versions does not: dpkg --compare-versions 1 lt 2; dpkg
    ∷ under (record (stating (codes "dpkg") Fails) { versions = true }) (spelled_out 1 (codes "dpkg") older)
    (Status true) []
    ∷ under (record (stating (codes "dpkg") Fails) { versions = true }) (spelled_out 1 (codes "dpkg") [])
    (Status false) []
    ∷ []

-- a command that is spelled out, under premises; and what it is to come to
pub record PlanExample : Type 0 where
  pub premises : Premises
  pub fields : List Text
  pub plan : Planned

-- what it comes to
abbrev pub plan_of : PlanExample → Planned
plan_of e = planned e.premises functions (spelled_by (map (λ field. true) e.fields)) e.fields

-- under premises, this command comes to that
abbrev pub plans : Premises → List Text → Planned → PlanExample
plans premises fields plan = record { premises = premises; fields = fields; plan = plan }

-- files that may be executed, and a known link
abbrev pub plan_examples : List PlanExample
plan_examples =
    -- test -x /a, where nothing is said of regular files, and where they may be executed; test ! -x /a
    plans no_premises (codes "test" ∷ codes "-x" ∷ codes "/a" ∷ []) (Ask (CanRun (in_root (codes "a")) false) false)
    ∷ plans executing (codes "test" ∷ codes "-x" ∷ codes "/a" ∷ []) (Ask (CanRun (in_root (codes "a")) true) false)
    ∷ plans executing (codes "test" ∷ codes "!" ∷ codes "-x" ∷ codes "/a" ∷ [])
    (Ask (CanRun (in_root (codes "a")) true) true)
    -- test -d /l, where /l leads to /a; mkdir /l/b; rm /l stops at the link
    ∷ plans linking (codes "test" ∷ codes "-d" ∷ codes "/l" ∷ []) (Ask (IsDir (in_root (codes "a"))) false)
    ∷ plans linking (codes "mkdir" ∷ codes "/l/b" ∷ [])
    (Change ((MakeDir (record { names = codes "a" ∷ codes "b" ∷ []; slash = false }) ∷ []) ∷ []))
    ∷ plans linking (codes "rm" ∷ codes "/l" ∷ []) (Change ((Exists (in_root (codes "l")) ∷ []) ∷ []))
    -- `call tool asks /l`, where /l leads to /a: tool
    ∷ plans (record linking { calls = record { name = codes "tool"; end = Asks (in_root (codes "l")) } ∷ [] })
    (codes "tool" ∷ []) (Ask (Exists (in_root (codes "a"))) false)
    ∷ []

-- each comes to what is wanted
abbrev pub Hold : List Example → Type 0
Hold examples = map comes examples ≡ map wanted examples

-- each plan is what is wanted
abbrev pub PlansHold : Type 0
PlansHold = map plan_of plan_examples ≡ map (λ (e : PlanExample). e.plan) plan_examples
