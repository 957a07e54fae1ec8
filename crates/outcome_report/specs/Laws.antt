-- What holds of parts of a report, whatever the outcomes are.
use Rattle.std.specs.Prelude.{◌≡◌, ℕ, List, map, Option, Result}
use Rattle.script_names.specs.declared.mark.Mark.{Mark}
use Rattle.feature_trees.specs.declared.value.Value.{Value}
use Rattle.dpkg_scenarios.specs.declared.scenario.Ending.{Ending}
use Rattle.dpkg_scenarios.specs.declared.scenario.Scenario.{Scenario}
use Rattle.scenario_runs.specs.declared.replayed.Replayed.{Replayed}
use Rattle.scenario_outcomes.specs.declared.outcome.OutcomesFault.{OutcomesFault}
use Rattle.scenario_outcomes.specs.Laws.{AreSame}
use Rattle.outcome_report.specs.declared.outcome_report.ReportEntry.{ReportEntry}
use Rattle.outcome_report.specs.declared.outcome_report.ReportPart.{ReportPart}
use Rattle.outcome_report.specs.OutcomeReport.{IsPart, PartAnswers}

-- ---- parts do not depend on how runs and start trees are said

-- each answer for the one is an answer for the other, where both are the same
abbrev pub PartsCarryOver :
    (Value → Option Replayed) → (Value → Option Replayed) → (Value → Type 0) → (Value → Type 0) → Type 0
PartsCarryOver run other start from =
    AreSame run other start from → (limit : ℕ) (result : Result ReportPart OutcomesFault)
    → PartAnswers run start limit result
    → PartAnswers other from limit result

-- ---- parts end alike

-- how an outcome ends, and its trace
abbrev pub ending_and_trace : ReportEntry → Ending × List Mark
ending_and_trace entry = (entry.outcome.ending, entry.outcome.trace)

-- a scenario, and how its outcomes end
abbrev pub scenario_and_endings : ReportPart → Scenario × List (Ending × List Mark)
scenario_and_endings part = (part.scenario, map ending_and_trace part.entries)

-- two parts on one scenario that are exact for the same runs and start trees have the same endings and traces
abbrev pub PartsEndAlike : (Value → Option Replayed) → (Value → Type 0) → Type 0
PartsEndAlike run start =
    (one other : ReportPart) → IsPart run start one → IsPart run start other → one.scenario ≡ other.scenario
    → scenario_and_endings one ≡ scenario_and_endings other
