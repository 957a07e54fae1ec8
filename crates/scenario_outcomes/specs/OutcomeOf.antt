-- The outcome that a path of a scenario is told as, and when the outcomes of paths are the answer.
use Rattle.std.specs.Prelude.{◌≡◌, ◌↔◌, ◌≤◌, ◌+◌, ℕ, suc, List, [], ◌∷◌, length, map, Option, Result, Ok, Err}
use Rattle.feature_trees.specs.declared.value.Value.{Value}
use Rattle.tree_clauses.specs.Literals.{Covers}
use Rattle.clause_solver.specs.Pairs.{HasPair}
use Rattle.case_paths.specs.declared.state.Found.{Found}
use Rattle.case_paths.specs.Paths.{AllAlive, states}
use Rattle.dpkg_scenarios.specs.declared.scenario.Ending.{Ending}
use Rattle.scenario_runs.specs.declared.call.ScriptCall.{ScriptCall}
use Rattle.scenario_runs.specs.declared.replayed.Replayed.{Replayed}
use Rattle.scenario_outcomes.specs.declared.outcome.Outcome.{Outcome}
use Rattle.scenario_outcomes.specs.declared.outcome.OutcomesFault.{OutcomesFault}
use Rattle.scenario_outcomes.specs.Outcomes.{Answers}

-- a path of a scenario, which ends with an ending and the calls of scripts
abbrev pub Path : Type 0
Path = Found (Ending × List ScriptCall)

-- the outcome of a path: its place in the list, its ending and trace, a clause with its pairs, and a start tree of one
-- of them
pub record IsOutcomeOf (place : ℕ) (path : Path) (outcome : Outcome) : Type 0 where
  pub number : outcome.number ≡ place + 1
  pub ending : outcome.ending ≡ path.value.0
  pub trace : outcome.trace ≡ path.state.trace
  pub covers : (t u : Value) → Covers outcome.clause t u ↔ HasPair path.state.store t u
  pub shown : (u : Value) × HasPair path.state.store outcome.shown u

-- the outcomes of these paths, of which the first stands at this place
abbrev pub AreOutcomes : ℕ → List Path → List Outcome → Type 0
AreOutcomes place [] [] = Unit {0}
AreOutcomes place [] (outcome ∷ outcomes) = ⊥
AreOutcomes place (path ∷ paths) [] = ⊥
AreOutcomes place (path ∷ paths) (outcome ∷ outcomes) =
    IsOutcomeOf place path outcome × AreOutcomes (suc place) paths outcomes

-- the endings of paths
abbrev pub path_endings : List Path → List Ending
path_endings paths = map (λ path. path.value.0) paths

-- these paths have pairs, are no more than the limit, and whatever outcomes they are told as are the answer
pub record ArePaths (run : Value → Option Replayed) (start : Value → Type 0) (limit : ℕ) (paths : List Path)
    : Type 0 where
  pub told : (outcomes : List Outcome) → AreOutcomes 0 paths outcomes → Answers run start limit (Ok outcomes)
  pub alive : AllAlive (states paths)
  pub few : length paths ≤ limit

-- what is found: such paths, or a fault as for the outcomes
abbrev pub PathsAnswer : (Value → Option Replayed) → (Value → Type 0) → ℕ → Result (List Path) OutcomesFault → Type 0
PathsAnswer run start limit (Ok paths) = ArePaths run start limit paths
PathsAnswer run start limit (Err fault) = Answers run start limit (Err fault)
