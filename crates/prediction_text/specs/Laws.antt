-- What the picks of a report's clauses tell of the runs.
use Rattle.std.specs.Prelude.{◌≡◌, ℕ, ◌+◌, List, Option, Some, None, slice_get}
use Rattle.feature_trees.specs.declared.value.Value.{Value}
use Rattle.scenario_runs.specs.declared.replayed.Replayed.{Replayed}
use Rattle.scenario_outcomes.specs.declared.outcome.Outcome.{Outcome}
use Rattle.scenario_outcomes.specs.Outcomes.{IsExact, EndsAs}
use Rattle.outcome_report.specs.declared.outcome_report.ReportPart.{ReportPart}
use Rattle.outcome_report.specs.OutcomeReport.{IsPart, outcomes_of}
use Rattle.tree_predictions.specs.Picks.{IsPick}
use Rattle.prediction_text.specs.PredictionText.{clauses_of}

-- the pick is the number of an outcome, and the run from the tree ends as this one says
pub record PicksRun (run : Value → Option Replayed) (outcomes : List Outcome) (tree : Value) (pick : Option ℕ)
    : Type 0 where
  pub place : ℕ
  pub outcome : Outcome
  pub at : slice_get outcomes place ≡ Some outcome
  pub numbered : pick ≡ Some outcome.number
  pub counted : pick ≡ Some (place + 1)
  pub now : Value
  pub ends : EndsAs run outcome tree now

-- Where a part of a report is exact for the runs from the start trees, as `check` makes it, the pick for a start tree
-- is the outcome with which the run from it ends, and there is none for any other tree.
abbrev pub PredictionsTellRuns : (Value → Option Replayed) → (Value → Type 0) → Type 0
PredictionsTellRuns run start =
    (part : ReportPart) (tree : Value) (pick : Option ℕ) → IsPart run start part → IsPick (clauses_of part) tree pick
    → (start tree → PicksRun run (outcomes_of part) tree pick) × (¬ (start tree) → pick ≡ None)
