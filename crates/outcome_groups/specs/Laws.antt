-- What holds of the groups of outcomes that are exact.
use Rattle.std.specs.Prelude.{Option}
use Rattle.feature_trees.specs.declared.value.Value.{Value}
use Rattle.scenario_runs.specs.declared.replayed.Replayed.{Replayed}
use Rattle.scenario_outcomes.specs.Outcomes.{IsExact}
use Rattle.outcome_report.specs.declared.outcome_report.ReportPart.{ReportPart}
use Rattle.outcome_report.specs.OutcomeReport.{outcomes_of}
use Rattle.outcome_groups.specs.Groups.{groups_of}
use Rattle.outcome_groups.specs.Told.{AreTold}

-- the groups of a part that is exact for these runs and start trees are told
abbrev pub GroupsAreTold : (Value → Option Replayed) → (Value → Type 0) → Type 0
GroupsAreTold run start =
    (part : ReportPart) → IsExact run start (outcomes_of part) → AreTold start (outcomes_of part) (groups_of part)
