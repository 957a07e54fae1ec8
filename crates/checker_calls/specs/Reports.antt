-- What is reported of packages: for each scenario that is chosen all ways in which it can end; or else which scenario
-- is refused.
use Rattle.std.specs.Prelude.{◌≡◌, ℕ, ◌≤◌, List, [], ◌∷◌, ◌++◌, Option, Some, None, Result, Ok, Err}
use Rattle.dpkg_scenarios.specs.declared.scenario.Scenario.{Scenario}
use Rattle.dpkg_scenarios.specs.Scenarios.{checked_scenarios}
use Rattle.command_words.specs.declared.request.Layout.{Layout}
use Rattle.command_words.specs.declared.request.Layout.TheVariants.{Plain, Brief, Json}
use Rattle.checker_input.specs.declared.package.Packages.{Packages}
use Rattle.package_jobs.specs.Written.{written_run}
use Rattle.package_jobs.specs.StartTrees.{IsStartTree}
use Rattle.scenario_outcomes.specs.declared.outcome.OutcomesFault.{OutcomesFault}
use Rattle.scenario_outcomes.specs.declared.outcome.OutcomesFault.TheVariants as outcomes
use Rattle.scenario_outcomes.specs.Outcomes.{SomeStarts, AreFew, AreTooMany}
use Rattle.outcome_report.specs.declared.outcome_report.ReportPart.{ReportPart}
use Rattle.outcome_report.specs.declared.outcome_report.Report.{Report}
use Rattle.outcome_report.specs.OutcomeReport.{IsPart, verdict_of}
use Rattle.report_text.specs.ReportText.{report_text}
use Rattle.report_text.specs.Whole.{IsRepresentable}
use Rattle.report_text.specs.declared.told_part.Telling.{Telling}
use Rattle.report_text.specs.declared.told_part.Telling.TheVariants.{Wholly, Briefly}
use Rattle.report_text.specs.BriefText.{brief_text}
use Rattle.report_json.specs.ReportJson.{json_text}
use Rattle.checker_calls.specs.declared.faults.Refusal.{Refusal}
use Rattle.checker_calls.specs.declared.faults.Refusal.TheVariants.{NoStart, Limit, Kept}
use Rattle.checker_calls.specs.declared.faults.TaskFault.{TaskFault}
use Rattle.checker_calls.specs.declared.faults.TaskFault.TheVariants.{Refused, Memory}
use Rattle.checker_calls.specs.declared.written.Written.{Written}

-- the scenarios that are chosen: one, or else all that a check answers for, in the order of their places
abbrev pub chosen : Option Scenario → List Scenario
chosen (Some scenario) = scenario ∷ []
chosen None = checked_scenarios

-- the text of a report in a layout
abbrev pub layout_text : Layout → Report → List ℕ
layout_text Plain report = report_text report
layout_text Brief report = brief_text report
layout_text Json report = json_text report

-- the layout of a report that is told so
abbrev pub layout_of : Telling → Layout
layout_of Wholly = Plain
layout_of Briefly = Brief

-- why a scenario has no report, by why it has no outcomes
abbrev pub task_fault : Scenario → ℕ → OutcomesFault → TaskFault
task_fault scenario limit outcomes.NoStart = Refused (NoStart scenario)
task_fault scenario limit outcomes.Over = Refused (Limit scenario limit)
task_fault scenario limit outcomes.Memory = Memory

-- Packages are checked, with so many turns of loops in a run, and so many different traces at most in a scenario.
module _ (packages : Packages) (turns limit : ℕ) where
  -- ---- a scenario

  -- the scenario can be reported: there is a start tree, and the runs from all of them have no more different traces
  -- than the limit
  pub record CanReport (scenario : Scenario) : Type 0 where
    pub starts : SomeStarts (IsStartTree scenario packages)
    pub few : AreFew (written_run scenario packages turns) (IsStartTree scenario packages) limit

  -- the part of a report has all ways in which the scenario's run can end
  pub record IsPartOf (scenario : Scenario) (part : ReportPart) : Type 0 where
    pub of_scenario : part.scenario ≡ scenario
    pub exact : IsPart (written_run scenario packages turns) (IsStartTree scenario packages) part
    pub bounded : CanReport scenario

  -- why the scenario is refused: there is no start tree, or the runs from the start trees have more different traces
  -- than the limit
  abbrev pub IsRefused : Scenario → Refusal → Type 0
  IsRefused scenario (NoStart which) = (which ≡ scenario) × ¬ (SomeStarts (IsStartTree scenario packages))
  IsRefused scenario (Limit which most) =
      (which ≡ scenario) × (most ≡ limit)
      × AreTooMany (written_run scenario packages turns) (IsStartTree scenario packages) limit
  IsRefused scenario (Kept path) = ⊥

  -- ---- scenarios

  -- each can be reported
  abbrev pub CanReportAll : List Scenario → Type 0
  CanReportAll [] = Unit {0}
  CanReportAll (scenario ∷ scenarios) = CanReport scenario × CanReportAll scenarios

  -- a report has one part for each, in order
  abbrev pub AreParts : List Scenario → List ReportPart → Type 0
  AreParts [] [] = Unit {0}
  AreParts [] (part ∷ parts) = ⊥
  AreParts (scenario ∷ scenarios) [] = ⊥
  AreParts (scenario ∷ scenarios) (part ∷ parts) = IsPartOf scenario part × AreParts scenarios parts

  -- the first of them that cannot be reported is refused so
  pub record IsFirstRefused (scenarios : List Scenario) (refusal : Refusal) : Type 0 where
    pub before : List Scenario
    pub scenario : Scenario
    pub behind : List Scenario
    pub are : scenarios ≡ before ++ scenario ∷ behind
    pub earlier : CanReportAll before
    pub refused : IsRefused scenario refusal

  -- the text is that of a report on them, one that the program's types represent, and the status is its verdict
  pub record IsReportOf (scenarios : List Scenario) (layout : Layout) (text : List ℕ) (status : ℕ) : Type 0 where
    pub report : Report
    pub parts : AreParts scenarios report.parts
    pub representable : IsRepresentable report
    pub text_is : text ≡ layout_text layout report
    pub status_is : status ≡ verdict_of report
    pub small : status ≤ 2

  -- ---- what the code answers

  -- why nothing is answered of a scenario: it is refused so, or memory is missing
  abbrev pub IsFault : Scenario → TaskFault → Type 0
  IsFault scenario (Refused refusal) = IsRefused scenario refusal
  IsFault scenario Memory = Unit {0}

  -- why nothing is answered of scenarios: the first that cannot be reported is refused so, or memory is missing
  abbrev pub IsFirstFault : List Scenario → TaskFault → Type 0
  IsFirstFault scenarios (Refused refusal) = IsFirstRefused scenarios refusal
  IsFirstFault scenarios Memory = Unit {0}

  -- the parts of scenarios, or why there are none
  abbrev pub PartsGive : List Scenario → Result Report TaskFault → Type 0
  PartsGive scenarios (Ok report) = AreParts scenarios report.parts
  PartsGive scenarios (Err fault) = IsFirstFault scenarios fault

  -- the text of the report, or why there is none
  abbrev pub ReportGives : List Scenario → Layout → Result Written TaskFault → Type 0
  ReportGives scenarios layout (Ok written) = IsReportOf scenarios layout written.text written.status
  ReportGives scenarios layout (Err fault) = IsFirstFault scenarios fault
