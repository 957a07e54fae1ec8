-- What is reported of a pair of packages, or of a package that is configured twice: of the one scenario all ways in
-- which it can end; or else why it is refused.
use Rattle.std.specs.Prelude.{◌≡◌, ℕ, ◌≤◌, List, [], ◌∷◌, Some, None, Result, Ok, Err}
use Rattle.dpkg_scenarios.specs.declared.scenario.Scenario.{Scenario}
use Rattle.checker_input.specs.declared.package.Packages.{Packages}
use Rattle.package_jobs.specs.Kept.{kept_of}
use Rattle.outcome_report.specs.declared.outcome_report.Report.{Report}
use Rattle.outcome_report.specs.OutcomeReport.{verdict_of}
use Rattle.report_text.specs.ReportText.{pair_text}
use Rattle.report_text.specs.Whole.{IsRepresentable}
use Rattle.checker_calls.specs.declared.faults.Refusal.{Refusal}
use Rattle.checker_calls.specs.declared.faults.Refusal.TheVariants.{NoStart, Limit, Kept}
use Rattle.checker_calls.specs.declared.faults.TaskFault.{TaskFault}
use Rattle.checker_calls.specs.declared.faults.TaskFault.TheVariants.{Refused, Memory}
use Rattle.checker_calls.specs.declared.written.Written.{Written}
use Rattle.checker_calls.specs.Reports.{AreParts, CanReportAll, IsFirstRefused}

module _ (packages : Packages) (turns limit : ℕ) (scenario : Scenario) where
  -- no file of the other package is kept, the text is that of a report on the scenario, one that the program's types
  -- represent, and the status is its verdict
  pub record IsPairOf (text : List ℕ) (status : ℕ) : Type 0 where
    pub nothing_kept : kept_of scenario packages ≡ None
    pub report : Report
    pub parts : AreParts packages turns limit (scenario ∷ []) report.parts
    pub representable : IsRepresentable report
    pub text_is : text ≡ pair_text report
    pub status_is : status ≡ verdict_of report
    pub small : status ≤ 2

  -- why the pair is refused: a file of the other package is kept; or else why the scenario is
  abbrev pub IsPairRefusal : Refusal → Type 0
  IsPairRefusal (Kept path) = kept_of scenario packages ≡ Some path
  IsPairRefusal (NoStart which) =
      (kept_of scenario packages ≡ None) × IsFirstRefused packages turns limit (scenario ∷ []) (NoStart which)
  IsPairRefusal (Limit which most) =
      (kept_of scenario packages ≡ None) × IsFirstRefused packages turns limit (scenario ∷ []) (Limit which most)

  -- no file of the other package is kept, and the scenario can be reported
  abbrev pub CanPair : Type 0
  CanPair = (kept_of scenario packages ≡ None) × CanReportAll packages turns limit (scenario ∷ [])

  -- what the code answers: the text of the report, or why there is none
  abbrev pub PairGives : Result Written TaskFault → Type 0
  PairGives (Ok written) = IsPairOf written.text written.status
  PairGives (Err (Refused refusal)) = IsPairRefusal refusal
  PairGives (Err Memory) = Unit {0}
