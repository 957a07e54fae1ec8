-- The endings of a report's scenarios, and what they make of the verdict.
use Rattle.std.specs.Prelude.{◌≡◌, ℕ, Bool, List, map, ◌==◌}
use Rattle.std.specs.List.{list_any}
use Rattle.dpkg_scenarios.specs.declared.scenario.Ending.{Ending}
use Rattle.outcome_report.specs.declared.outcome_report.ReportEntry.{ReportEntry}
use Rattle.outcome_report.specs.declared.outcome_report.ReportPart.{ReportPart}
use Rattle.outcome_report.specs.declared.outcome_report.Report.{Report}
use Rattle.dpkg_scenarios.specs.Verdicts.{ending_verdict, verdict_on}
use Rattle.load_summary.specs.declared.endings.ScenarioEndings.{ScenarioEndings}

-- how an outcome ends
abbrev pub ending_of : ReportEntry → Ending
ending_of entry = entry.outcome.ending

-- the scenario of a part of a report, and how its outcomes end
abbrev pub endings_of : ReportPart → ScenarioEndings
endings_of part = record { scenario = part.scenario; endings = map ending_of part.entries }

-- the report has these scenarios, with these endings
abbrev pub HasEndings : Report → List ScenarioEndings → Type 0
HasEndings report scenarios = map endings_of report.parts ≡ scenarios

-- some ending of the scenario has this verdict
abbrev pub ends_so : ℕ → ScenarioEndings → Bool
ends_so verdict scenario = list_any (λ ending. ending_verdict ending == verdict) scenario.endings

-- some ending of the scenarios has this verdict
abbrev pub some_ends_so : ℕ → List ScenarioEndings → Bool
some_ends_so verdict scenarios = list_any (ends_so verdict) scenarios

-- the verdict on the endings together
abbrev pub endings_verdict : List ScenarioEndings → ℕ
endings_verdict scenarios = verdict_on (ends_so 1) (ends_so 2) scenarios
