-- What a load comes to: the summary of the report on a made package; or else which scenario is refused.
use Rattle.std.specs.Prelude.{◌≡◌, ℕ, ◌≤◌, List, [], None, Result, Ok, Err}
use Rattle.system_base.specs.Bases.{usual}
use Rattle.checker_input.specs.declared.package.Packages.{Packages}
use Rattle.load_maker.specs.Loaded.{IsLoaded}
use Rattle.outcome_report.specs.declared.outcome_report.Report.{Report}
use Rattle.outcome_report.specs.declared.outcome_report.ReportPart.{ReportPart}
use Rattle.outcome_report.specs.OutcomeReport.{verdict_of}
use Rattle.load_summary.specs.declared.endings.ScenarioEndings.{ScenarioEndings}
use Rattle.load_summary.specs.Endings.{endings_of}
use Rattle.load_summary.specs.Summary.{summary_text}
use Rattle.checker_calls.specs.declared.faults.Refusal.{Refusal}
use Rattle.checker_calls.specs.declared.faults.TaskFault.{TaskFault}
use Rattle.checker_calls.specs.declared.faults.TaskFault.TheVariants.{Refused, Memory}
use Rattle.checker_calls.specs.declared.loads.TheConstants.{TURNS}
use Rattle.checker_calls.specs.declared.written.Written.{Written}
use Rattle.checker_calls.specs.Accounts.{AccountsGive}
use Rattle.checker_calls.specs.Reports.{chosen, CanReportAll, AreParts, IsFirstRefused}

-- the packages of a load: the made package of the number, which is its own old one, on the usual base, and whose name
-- is not asked for
pub record AreLoaded (number : ℕ) (packages : Packages) : Type 0 where
  pub made : IsLoaded number packages.new_package
  pub alone : packages.old_package ≡ None
  pub on : packages.base ≡ usual
  pub nameless : packages.name ≡ []

-- the text sums up the report on the packages of a load, in all scenarios, and the status is its verdict
pub record IsLoadOf (number limit : ℕ) (text : List ℕ) (status : ℕ) : Type 0 where
  pub packages : Packages
  pub loaded : AreLoaded number packages
  pub report : Report
  pub parts : AreParts packages TURNS limit (chosen None) report.parts
  pub text_is : text ≡ summary_text number report
  pub status_is : status ≡ verdict_of report
  pub small : status ≤ 2

-- a load is refused so: of all scenarios of its packages, the first that cannot be reported is refused so
pub record IsLoadRefusal (number limit : ℕ) (refusal : Refusal) : Type 0 where
  pub packages : Packages
  pub loaded : AreLoaded number packages
  pub refused : IsFirstRefused packages TURNS limit (chosen None) refusal

-- a load is not refused: each scenario of its packages can be reported
abbrev pub CanLoad : ℕ → ℕ → Type 0
CanLoad number limit =
    (packages : Packages) → AreLoaded number packages → CanReportAll packages TURNS limit (chosen None)

-- ---- what the code answers

-- how the outcomes of all scenarios end, or why that is not known
abbrev pub EndingsGive : Packages → ℕ → Result (List ScenarioEndings) TaskFault → Type 0
EndingsGive packages limit =
    AccountsGive (λ (part : ReportPart) (endings : ScenarioEndings). endings_of part ≡ endings)
    packages TURNS limit (chosen None)

-- the summary of a load, or its refusal, or want of memory
abbrev pub LoadGives : ℕ → ℕ → Result Written TaskFault → Type 0
LoadGives number limit (Ok written) = IsLoadOf number limit written.text written.status
LoadGives number limit (Err (Refused refusal)) = IsLoadRefusal number limit refusal
LoadGives number limit (Err Memory) = Unit {0}
