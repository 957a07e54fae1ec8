-- Two reports on the same scenarios of the same packages end alike.
use Rattle.std.proofs.Common.{◌≡◌, ℕ, List, [], ◌∷◌, map, refl, sym, ap, ◌∙◌}
use Rattle.dpkg_scenarios.specs.declared.scenario.Scenario.{Scenario}
use Rattle.checker_input.specs.declared.package.Packages.{Packages}
use Rattle.package_jobs.specs.Written.{written_run}
use Rattle.package_jobs.specs.StartTrees.{IsStartTree}
use Rattle.outcome_report.specs.declared.outcome_report.ReportPart.{ReportPart}
use Rattle.outcome_report.specs.declared.outcome_report.Report.{Report}
use Rattle.outcome_report.specs.Laws.{scenario_and_endings}
use Rattle.outcome_report.specs.OutcomeReport.{verdict_of}
use Rattle.report_text.proofs.Briefs.{verdict_told, verdict_is}
use Rattle.outcome_report.proofs.EndAlike.{parts_end_alike}
use Rattle.checker_calls.specs.Reports.{AreParts}

-- reports on the same scenarios, with whatever limits, end alike
parts_alike : (packages : Packages) (turns limit most : ℕ) (scenarios : List Scenario) (one other : List ReportPart)
    → AreParts packages turns limit scenarios one → AreParts packages turns most scenarios other
    → map scenario_and_endings one ≡ map scenario_and_endings other
parts_alike packages turns limit most [] [] [] are same = refl
parts_alike packages turns limit most [] [] (part ∷ other) are same = absurd same
parts_alike packages turns limit most [] (part ∷ one) other are same = absurd are
parts_alike packages turns limit most (scenario ∷ scenarios) [] other are same = absurd are
parts_alike packages turns limit most (scenario ∷ scenarios) (part ∷ one) [] are same = absurd same
parts_alike packages turns limit most (scenario ∷ scenarios) (part ∷ one) (peer ∷ other) are same =
    let first = parts_end_alike (written_run scenario packages turns) (IsStartTree scenario packages) part peer are.0.exact same.0.exact
    (are.0.of_scenario ∙ sym same.0.of_scenario) in
    let rest = parts_alike packages turns limit most scenarios one other are.1 same.1 in
    λ i. first i ∷ rest i

module _ (packages : Packages) (turns limit most : ℕ) (scenarios : List Scenario) (one other : Report)
    (are : AreParts packages turns limit scenarios one.parts) (same : AreParts packages turns most scenarios other.parts) where
  pub alike : map scenario_and_endings one.parts ≡ map scenario_and_endings other.parts
  alike = parts_alike packages turns limit most scenarios one.parts other.parts are same

  pub verdicts_alike : verdict_of one ≡ verdict_of other
  verdicts_alike = verdict_is one ∙ ap verdict_told alike ∙ sym (verdict_is other)
