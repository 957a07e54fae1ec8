-- The state of a run, how a run goes on or is left, and the place of what is run
-- (POSIX.1-2017, XCU 2.12 Shell Execution Environment).
use Rattle.std.specs.Prelude.{ℕ, Bool, true, false, List, [], ◌∷◌, if◌then◌else◌}
use Rattle.script_names.specs.declared.mark.Mark.{Mark}
use Rattle.script_names.specs.declared.mark.Site.{Site}
use Rattle.script_names.specs.declared.reason.Reason.{Reason}
use Rattle.feature_trees.specs.declared.value.Value.{Value}
use Rattle.utility_calls.specs.declared.acts.Act.{Act}
use Rattle.shell_rules.specs.declared.state.Conc.{Conc}
pub use Rattle.shell_rules.specs.declared.leave.Leave.{Leave}
pub use Rattle.shell_rules.specs.declared.leave.Leave.TheVariants.{Broke, Continued, Returned, Exited, Stopped, Bound}

-- a string of bytes
abbrev pub Text : Type 0
Text = List ℕ

-- The state: the shell's own, the tree, the trace of the acts that were done, and these acts in order. Besides, of the
-- command whose words are expanded, whether its last command substitution succeeded; true where there was none so far.
pub record State : Type 0 where
  pub conc : Conc
  pub tree : Value
  pub trace : List Mark
  pub acts : List Act
  pub substituted : Bool

-- a run goes on with a value and a state, or is left in a state
pub data Run (A : Type 0) : Type 0 where
  Go : (value : A) (now : State) → Run A
  Left : (how : Leave) (now : State) → Run A

-- one after another: what follows is run where the first goes on
abbrev pub then_do : {A B : Type 0} → Run A → (A → State → Run B) → Run B
then_do (Go value s) next = next value s
then_do (Left how s) next = Left how s

-- What is closed off from the outside: these ways to leave it end it alone. Whatever ends it, the state behind it is
-- made from the one in which it ended.
abbrev pub closed_off : {A : Type 0} → (Leave → Bool) → (State → A) → (State → State) → Run (Unit {0}) → Run A
closed_off ends value back (Go _ s) = Go (value s) (back s)
closed_off ends value back (Left how s) = if ends how then Go (value s) (back s) else Left how (back s)

-- nothing leaves it that does not leave what stands round it too
abbrev pub by_nothing : Leave → Bool
by_nothing how = false

-- `exit` ends it
abbrev pub by_exit : Leave → Bool
by_exit Broke = false
by_exit Continued = false
by_exit Returned = false
by_exit Exited = true
by_exit (Stopped reason site) = false
by_exit (Bound site) = false

-- `return` ends it
abbrev pub by_return : Leave → Bool
by_return Broke = false
by_return Continued = false
by_return Returned = true
by_return Exited = false
by_return (Stopped reason site) = false
by_return (Bound site) = false

-- no value
abbrev pub no_value : State → Unit {0}
no_value s = tt

-- Where a command stands: the step of the scenario; the byte offset in the script of the command that is run; the
-- names of all functions that the script defines; whether a failure is excepted from `set -e`; and whether it stands
-- in a command substitution.
pub record Place : Type 0 where
  pub step : ℕ
  pub at : ℕ
  pub functions : List Text
  pub excepted : Bool
  pub inner : Bool

-- the place of a command that begins at this offset
abbrev pub at_command : ℕ → Place → Place
at_command at p = record p { at = at }

-- a place whose failures are excepted from `set -e`
abbrev pub except : Place → Place
except p = record p { excepted = true }

-- a place in a substitution, where nothing is excepted by what stands outside
abbrev pub in_substitution : Place → Place
in_substitution p = record p { excepted = false; inner = true }

-- the site of the command
abbrev pub site_of : Place → Site
site_of p = record { step = p.step; at = p.at }

-- the run stops at the command for a reason
abbrev pub stopped : {A : Type 0} → Reason → Place → State → Run A
stopped reason p s = Left (Stopped reason (site_of p)) s

-- what gives a value
abbrev pub Doing : Type 0 → Type 0
Doing A = Place → State → Run A

-- what a command does
abbrev pub Action : Type 0
Action = Doing (Unit {0})

-- the functions that are defined, the latest first: each name with what the body does
abbrev pub Funs : Type 0
Funs = List (Text × Action)

-- what a command does where these functions are defined
abbrev pub Does : Type 0
Does = Funs → Action

-- what several parts do where these functions are defined
abbrev pub with : {A : Type 0} → Funs → List (Funs → A) → List A
with f [] = []
with f (part ∷ parts) = part f ∷ with f parts

-- ---- parts of the state

-- with this status; true is success
abbrev pub with_status : Bool → State → State
with_status ok s = record s { conc = record s.conc { status = ok } }

-- with this strict flag
abbrev pub with_strict : Bool → State → State
with_strict on s = record s { conc = record s.conc { strict = on } }

-- with these arguments
abbrev pub with_arguments : List Text → State → State
with_arguments arguments s = record s { conc = record s.conc { args = arguments } }

-- success, where there is none of these to give another status
abbrev pub success_if_none : {A : Type 0} → List A → State → State
success_if_none [] s = with_status true s
success_if_none (x ∷ xs) s = s
