-- The laws that src/theorems.rt proves of reports and refusals.
use Rattle.std.specs.Prelude.{◌≡◌, ℕ, ◌+◌, false, List, Option, Some, None, Result, Ok, slice_get}
use Rattle.feature_trees.specs.declared.value.Value.{Value}
use Rattle.dpkg_scenarios.specs.declared.scenario.Scenario.{Scenario}
use Rattle.dpkg_scenarios.specs.declared.scenario.Ending.{Ending}
use Rattle.dpkg_scenarios.specs.declared.scenario.Ending.TheVariants.{Done, Failed, Incomplete, Bound}
use Rattle.checker_io.specs.Shelf.{Files}
use Rattle.command_words.specs.declared.request.Layout.{Layout}
use Rattle.command_words.specs.declared.request.Layout.TheVariants.{Plain, Brief, Json}
use Rattle.command_words.specs.declared.request.Request.{Request}
use Rattle.command_words.specs.declared.request.Request.TheVariants as words
use Rattle.checker_input.specs.declared.package.Packages.{Packages}
use Rattle.scenario_runs.specs.declared.replayed.Replayed.{Replayed}
use Rattle.scenario_runs.specs.Laws.{is_bound}
use Rattle.package_jobs.specs.Written.{written_run}
use Rattle.package_jobs.specs.StartTrees.{IsStartTree}
use Rattle.outcome_report.specs.declared.outcome_report.ReportEntry.{ReportEntry}
use Rattle.outcome_report.specs.declared.outcome_report.ReportPart.{ReportPart}
use Rattle.outcome_report.specs.declared.outcome_report.Report.{Report}
use Rattle.outcome_report.specs.Kept.{replay_of}
use Rattle.outcome_report.specs.OutcomeReport.{outcomes_of}
use Rattle.outcome_groups.specs.Groups.{groups_of}
use Rattle.outcome_groups.specs.Told.{AreTold}
use Rattle.report_text.specs.Whole.{IsWhole}
use Rattle.tree_predictions.specs.Picks.{IsPick}
use Rattle.prediction_text.specs.PredictionText.{clauses_of}
use Rattle.prediction_text.specs.Laws.{PicksRun}
use Rattle.checker_calls.specs.declared.faults.CallRefusal.{CallRefusal}
use Rattle.checker_calls.specs.Reports.{AreParts, IsPartOf, IsReportOf, chosen}
use Rattle.checker_calls.specs.Top.{FilesGiveOver, IsRequestRefusal, IsAnswerText}

-- ---- what holds from each start tree

-- the ending is success
abbrev pub IsDone : Ending → Type 0
IsDone (Done state) = Unit {0}
IsDone (Failed state) = ⊥
IsDone (Incomplete reason site) = ⊥
IsDone (Bound site) = ⊥

-- all outcomes of a part are done: none is failed, incomplete or bound
abbrev pub IsQuietPart : ReportPart → Type 0
IsQuietPart part =
    (place : ℕ) (entry : ReportEntry) → slice_get part.entries place ≡ Some entry → IsDone entry.outcome.ending

-- From each start tree the scenario's run is done, with so many turns of loops, and with more turns it is the same run.
-- In the run the scripts do what the shell does (POSIX.1-2017, XCU), and the steps are those of the package manager
-- (Debian Policy, 6.5 to 6.8).
abbrev pub IsDoneEverywhere : Packages → ℕ → Scenario → Type 0
IsDoneEverywhere packages turns scenario =
    (start : Value) → IsStartTree scenario packages start
    → (run : Replayed) × ((more : ℕ) → written_run scenario packages (turns + more) start ≡ Some run)
    × IsDone run.ending

-- a scenario that is reported without failed, incomplete and bound outcomes is done from each start tree
abbrev pub QuietScenario : Type 0
QuietScenario =
    (packages : Packages) (turns limit : ℕ) (scenario : Scenario) (part : ReportPart)
    → IsPartOf packages turns limit scenario part → IsQuietPart part → IsDoneEverywhere packages turns scenario

-- where the status of a report is 0, each of its scenarios is done from each start tree
abbrev pub QuietReport : Type 0
QuietReport =
    (packages : Packages) (turns limit : ℕ) (scenarios : List Scenario) (layout : Layout) (text : List ℕ)
    → IsReportOf packages turns limit scenarios layout text 0
    → (place : ℕ) (scenario : Scenario) → slice_get scenarios place ≡ Some scenario
    → IsDoneEverywhere packages turns scenario

-- the ending is failure
abbrev pub IsFailed : Ending → Type 0
IsFailed (Done state) = ⊥
IsFailed (Failed state) = Unit {0}
IsFailed (Incomplete reason site) = ⊥
IsFailed (Bound site) = ⊥

-- no outcome of a part is failed, though some may be incomplete or bound
abbrev pub IsUnfailedPart : ReportPart → Type 0
IsUnfailedPart part =
    (place : ℕ) (entry : ReportEntry) → slice_get part.entries place ≡ Some entry → ¬ (IsFailed entry.outcome.ending)

-- The scenario's run from the tree does not fail, with so many turns of loops. Unless it ended for want of a turn, it
-- is the same run with more turns, so with these it does not fail either.
pub record DoesNotFail (packages : Packages) (turns : ℕ) (scenario : Scenario) (start : Value) : Type 0 where
  pub run : Replayed
  pub is_run : written_run scenario packages turns start ≡ Some run
  pub unfailed : ¬ (IsFailed run.ending)
  pub with_more : is_bound run.ending ≡ false
      → (more : ℕ) → written_run scenario packages (turns + more) start ≡ Some run

-- from no start tree does the scenario fail
abbrev pub FailsNowhere : Packages → ℕ → Scenario → Type 0
FailsNowhere packages turns scenario =
    (start : Value) → IsStartTree scenario packages start → DoesNotFail packages turns scenario start

-- a scenario that is reported without failed outcomes fails from no start tree
abbrev pub UnfailedScenario : Type 0
UnfailedScenario =
    (packages : Packages) (turns limit : ℕ) (scenario : Scenario) (part : ReportPart)
    → IsPartOf packages turns limit scenario part → IsUnfailedPart part → FailsNowhere packages turns scenario

-- where the status of a report is not 1, none of its scenarios fails from any start tree
abbrev pub UnfailedReport : Type 0
UnfailedReport =
    (packages : Packages) (turns limit : ℕ) (scenarios : List Scenario) (layout : Layout) (text : List ℕ) (status : ℕ)
    → IsReportOf packages turns limit scenarios layout text status → ¬ (status ≡ 1)
    → (place : ℕ) (scenario : Scenario) → slice_get scenarios place ≡ Some scenario
    → FailsNowhere packages turns scenario

-- ---- what holds from some start tree

-- the scenario's run from this start tree fails, with so many turns of loops, and with more turns it is the same run
pub record IsFailure (packages : Packages) (turns : ℕ) (scenario : Scenario)
    (start : Value) (run : Replayed) : Type 0 where
  pub is_start : IsStartTree scenario packages start
  pub is_run : (more : ℕ) → written_run scenario packages (turns + more) start ≡ Some run
  pub failed : IsFailed run.ending

-- one of these scenarios fails from some start tree
pub record FailsSomewhere (packages : Packages) (turns : ℕ) (scenarios : List Scenario) : Type 0 where
  pub place : ℕ
  pub scenario : Scenario
  pub at : slice_get scenarios place ≡ Some scenario
  pub start : Value
  pub run : Replayed
  pub failure : IsFailure packages turns scenario start run

-- where a scenario is reported with a failed outcome, the replay that goes with it is what is kept of a run that is a
-- failure, from the tree that is shown
abbrev pub FailedScenario : Type 0
FailedScenario =
    (packages : Packages) (turns limit : ℕ) (scenario : Scenario) (part : ReportPart)
    → IsPartOf packages turns limit scenario part
    → (place : ℕ) (entry : ReportEntry) → slice_get part.entries place ≡ Some entry → IsFailed entry.outcome.ending
    → (run : Replayed) × (entry.replayed ≡ replay_of run) × IsFailure packages turns scenario entry.outcome.shown run

-- where the status of a report is 1, one of its scenarios fails from some start tree
abbrev pub FailedReport : Type 0
FailedReport =
    (packages : Packages) (turns limit : ℕ) (scenarios : List Scenario) (layout : Layout) (text : List ℕ)
    → IsReportOf packages turns limit scenarios layout text 1 → FailsSomewhere packages turns scenarios

-- ---- what a report is, and what its texts tell

-- what is reported of the chosen scenarios is a whole report: its trees are directories, each replay ends as its
-- outcome says, the outcomes of a scenario are numbered from 1, and the scenarios are different and in their order
abbrev pub WholeReports : Type 0
WholeReports =
    (packages : Packages) (turns limit : ℕ) (which : Option Scenario) (report : Report)
    → AreParts packages turns limit (chosen which) report.parts → IsWhole report

-- two checks that answer one text in this layout report the same: whatever the packages, turns, limits and chosen
-- scenarios of the one and of the other are, their reports are equal
abbrev pub TextsTellReports : Layout → Type 0
TextsTellReports layout =
    (packages other_packages : Packages) (turns other_turns limit other_limit : ℕ) (which other_which : Option Scenario)
    (text : List ℕ) (status other_status : ℕ)
    → (a : IsReportOf packages turns limit (chosen which) layout text status)
    → (b : IsReportOf other_packages other_turns other_limit (chosen other_which) layout text other_status)
    → a.report ≡ b.report

-- a plain text tells its report so
abbrev pub PlainTextsTellReports : Type 0
PlainTextsTellReports = TextsTellReports Plain

-- so does a JSON text, however deep the report's trees are
abbrev pub JsonTextsTellReports : Type 0
JsonTextsTellReports = TextsTellReports Json

-- ---- what is one

-- Two reports on the same scenarios of the same packages, with the same turns of loops, have one status, whatever their
-- layouts and limits are.
abbrev pub OneReportStatus : Type 0
OneReportStatus =
    (packages : Packages) (turns limit other_limit : ℕ) (scenarios : List Scenario) (layout other_layout : Layout)
    (text other : List ℕ) (status other_status : ℕ)
    → IsReportOf packages turns limit scenarios layout text status
    → IsReportOf packages turns other_limit scenarios other_layout other other_status
    → status ≡ other_status

-- and where both are brief, they have one text, whatever their limits are
abbrev pub OneBriefText : Type 0
OneBriefText =
    (packages : Packages) (turns limit other_limit : ℕ) (scenarios : List Scenario) (text other : List ℕ)
    (status other_status : ℕ)
    → IsReportOf packages turns limit scenarios Brief text status
    → IsReportOf packages turns other_limit scenarios Brief other other_status
    → text ≡ other

-- over files of the same contents words are answered with one status, if with a text at all
abbrev pub OneStatus : Type 0
OneStatus =
    (given : Result Request ℕ) (files : Files) (text other : List ℕ) (status other_status : ℕ)
    → IsAnswerText given (Some files) text status → IsAnswerText given (Some files) other other_status
    → status ≡ other_status

-- the text of the request shows no clause and no start tree of an outcome: of a check it is the brief one
abbrev pub ShowsNoOutcome : Request → Type 0
ShowsNoOutcome (words.Check folders scenario turns limit Plain) = ⊥
ShowsNoOutcome (words.Check folders scenario turns limit Brief) = Unit {0}
ShowsNoOutcome (words.Check folders scenario turns limit Json) = ⊥
ShowsNoOutcome (words.Run folders file scenario turns) = Unit {0}
ShowsNoOutcome (words.Translate file) = Unit {0}
ShowsNoOutcome (words.Load number limit) = Unit {0}
ShowsNoOutcome (words.Predict report trees) = Unit {0}
ShowsNoOutcome (words.Explain folders scenario turns limit view) = ⊥
ShowsNoOutcome (words.Pair dir other base scenario turns limit) = ⊥
ShowsNoOutcome (words.Twice dir base turns limit) = ⊥

-- over files of the same contents such a request is answered with one text: a brief check, a run, a translation, a load
-- and a prediction
abbrev pub OneText : Type 0
OneText =
    (request : Request) (files : Files) (text other : List ℕ) (status other_status : ℕ) → ShowsNoOutcome request
    → IsAnswerText (Ok request) (Some files) text status → IsAnswerText (Ok request) (Some files) other other_status
    → text ≡ other

-- over files of the same contents a request is refused for one reason
abbrev pub OneRefusal : Type 0
OneRefusal =
    (request : Request) (files : Files) (one other : CallRefusal)
    → IsRequestRefusal request (FilesGiveOver request files) one
    → IsRequestRefusal request (FilesGiveOver request files) other → one ≡ other

-- ---- what groups and predictions tell of systems

-- the groups of a scenario that is explained are told of its start trees: each meets what is told of the group that its
-- outcome is in, and where a group is told exactly, no other start tree does
abbrev pub GroupsTellSystems : Type 0
GroupsTellSystems =
    (packages : Packages) (turns limit : ℕ) (scenario : Scenario) (part : ReportPart)
    → IsPartOf packages turns limit scenario part
    → AreTold (IsStartTree scenario packages) (outcomes_of part) (groups_of part)

-- what is predicted by the report of a scenario for a start tree is the outcome with which the run from it ends, and
-- for any other tree none
abbrev pub PredictionsTellSystems : Type 0
PredictionsTellSystems =
    (packages : Packages) (turns limit : ℕ) (scenario : Scenario) (part : ReportPart)
    → IsPartOf packages turns limit scenario part
    → (tree : Value) (pick : Option ℕ) → IsPick (clauses_of part) tree pick
    → (IsStartTree scenario packages tree
    → PicksRun (written_run scenario packages turns) (outcomes_of part) tree pick)
    × (¬ (IsStartTree scenario packages tree) → pick ≡ None)
