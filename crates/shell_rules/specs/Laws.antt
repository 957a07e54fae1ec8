-- What every rule keeps: a run only adds to the trace; turns never rise; premises stay; and a run that is not bound is,
-- with more turns, the same run but for the turns that are left.
use Rattle.std.specs.Prelude.{◌≡◌, ◌≤◌, ◌+◌, ◌⊎◌, ℕ, Bool, true, false, IsTrue, List, ◌++◌}
use Rattle.script_names.specs.declared.mark.Mark.{Mark}
use Rattle.feature_trees.specs.declared.value.Value.{Value}
use Rattle.shell_rules.specs.declared.state.Conc.{Conc}
use Rattle.shell_rules.specs.declared.run.End.{End}
use Rattle.shell_rules.specs.declared.run.End.TheVariants as end
use Rattle.shell_rules.specs.State.{Text, State, Leave, Broke, Continued, Returned, Exited, Stopped, Bound}
use Rattle.shell_rules.specs.State.{Run, Go, Left, Place, Doing, Action}
use Rattle.shell_rules.specs.Parts.{Property}
use Rattle.shell_rules.specs.Whole.{Ended, whole_run}

-- the state in which a run goes on or is left
abbrev pub state_of : {A : Type 0} → Run A → State
state_of (Go value s) = s
state_of (Left how s) = s

-- a trace begins with these marks
pub record Extends (front whole : List Mark) : Type 0 where
  pub more : List Mark
  pub is : whole ≡ front ++ more

-- the state with more turns left
abbrev pub more_turns : ℕ → State → State
more_turns n s = record s { conc = record s.conc { turns = s.conc.turns + n } }

-- the run that ends with more turns left
abbrev pub run_with_more : {A : Type 0} → ℕ → Run A → Run A
run_with_more n (Go value s) = Go value (more_turns n s)
run_with_more n (Left how s) = Left how (more_turns n s)

-- whether it is for want of a turn
abbrev pub is_bound : Leave → Bool
is_bound Broke = false
is_bound Continued = false
is_bound Returned = false
is_bound Exited = false
is_bound (Stopped reason site) = false
is_bound (Bound site) = true

-- the run ends for want of a turn
abbrev pub IsBound : {A : Type 0} → Run A → Type 0
IsBound (Go value s) = ⊥
IsBound (Left how s) = IsTrue (is_bound how)

-- a run from a state, and beside it the run from that state with n more turns
pub record Keeps {A : Type 0} (n : ℕ) (s : State) (run with_more : Run A) : Type 0 where
  pub trace : Extends s.trace (state_of run).trace
  pub turns : (state_of run).conc.turns ≤ s.conc.turns
  pub premises : (state_of run).conc.premises ≡ s.conc.premises
  pub same : IsBound run ⊎ (with_more ≡ run_with_more n run)

-- what is run keeps the four laws from every state
abbrev pub Lawful : {A : Type 0} → (State → Run A) → Type 0
Lawful run = (n : ℕ) (s : State) → Keeps n s (run s) (run (more_turns n s))

-- at every place
abbrev pub IsLawful : {A : Type 0} → Doing A → Type 0
IsLawful doing = (p : Place) → Lawful (doing p)

-- as a property
abbrev pub Lawfulness : Property
Lawfulness A doing = IsLawful doing

-- ---- whole runs

-- the state of the shell with more turns left
abbrev pub conc_with_more : ℕ → Conc → Conc
conc_with_more n conc = record conc { turns = conc.turns + n }

-- what a run comes to, with more turns left
abbrev pub ended_with_more : ℕ → Ended → Ended
ended_with_more n e = record e { conc = conc_with_more n e.conc }

-- whether a run is bound
abbrev pub is_bound_end : End → Bool
is_bound_end (end.Status ok) = false
is_bound_end (end.Stopped reason site) = false
is_bound_end (end.Bound site) = true

-- The runs of a body in a step, over functions of these names: they only add to the trace, they have no more turns
-- left than they began with, their premises stay, and one that is not bound is the same run with more turns, but for
-- the turns that are left.
pub record WholeKeeps (body : Action) : Type 0 where
  pub trace : (step : ℕ) (functions : List Text) (conc : Conc) (tree : Value) (trace : List Mark)
      → Extends trace (whole_run body step functions conc tree trace).trace
  pub turns : (step : ℕ) (functions : List Text) (conc : Conc) (tree : Value) (trace : List Mark)
      → (whole_run body step functions conc tree trace).conc.turns ≤ conc.turns
  pub premises : (step : ℕ) (functions : List Text) (conc : Conc) (tree : Value) (trace : List Mark)
      → (whole_run body step functions conc tree trace).conc.premises ≡ conc.premises
  pub same : (n step : ℕ) (functions : List Text) (conc : Conc) (tree : Value) (trace : List Mark)
      → IsTrue (is_bound_end (whole_run body step functions conc tree trace).end)
      ⊎ (whole_run body step functions (conc_with_more n conc) tree trace
      ≡ ended_with_more n (whole_run body step functions conc tree trace))
