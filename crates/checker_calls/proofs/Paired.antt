-- The report on a pair of packages, and why there is none.
use Rattle.std.proofs.Common.{◌≡◌, ℕ, ◌≤◌, List, [], ◌∷◌, None, Err, sym, subst}
use Rattle.dpkg_scenarios.specs.declared.scenario.Scenario.{Scenario}
use Rattle.checker_input.specs.declared.package.Packages.{Packages}
use Rattle.package_jobs.specs.Kept.{kept_of}
use Rattle.outcome_report.specs.declared.outcome_report.Report.{Report}
use Rattle.outcome_report.specs.OutcomeReport.{report_has, verdict_of}
use Rattle.report_text.specs.ReportText.{pair_text}
use Rattle.report_text.specs.Whole.{IsRepresentable}
use Rattle.checker_calls.specs.declared.faults.Refusal.TheVariants.{NoStart, Limit, Kept}
use Rattle.checker_calls.specs.declared.faults.TaskFault.{TaskFault}
use Rattle.checker_calls.specs.declared.faults.TaskFault.TheVariants.{Refused, Memory}
use Rattle.checker_calls.specs.Pairs.{IsPairOf, PairGives}
use Rattle.checker_calls.specs.Reports.{AreParts, IsFirstFault}
use Rattle.checker_calls.proofs.Loaded.{small}

module _ (packages : Packages) (turns limit : ℕ) (scenario : Scenario) (nothing : kept_of scenario packages ≡ None) where
  pub pair_fault : (fault : TaskFault) → IsFirstFault packages turns limit (scenario ∷ []) fault
      → PairGives packages turns limit scenario (Err fault)
  pair_fault (Refused (NoStart which)) is = (nothing, is)
  pair_fault (Refused (Limit which most)) is = (nothing, is)
  pair_fault (Refused (Kept path)) is = absurd is.refused
  pair_fault Memory is = tt

  pub pair_report : (report : Report) (text : List ℕ) (status : ℕ) → AreParts packages turns limit (scenario ∷ []) report.parts
      → IsRepresentable report → text ≡ pair_text report → status ≡ verdict_of report
      → IsPairOf packages turns limit scenario text status
  pair_report report text status parts representable text_is status_is = record {
    nothing_kept = nothing;
    report = report;
    parts = parts;
    representable = representable;
    text_is = text_is;
    status_is = status_is;
    small = subst (λ n. n ≤ 2) (sym status_is) (small (report_has 1 report) (report_has 2 report));
  }
