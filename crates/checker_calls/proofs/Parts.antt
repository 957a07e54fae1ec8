-- The part of a report on a scenario, from what is answered of its job and its needs.
use Rattle.std.proofs.Common.{◌≡◌, ℕ, List, Result, Ok, Err, refl, sym, subst}
use Rattle.std.specs.Prelude.{◌↔◌}
use Rattle.feature_trees.specs.declared.value.Value.{Value}
use Rattle.dpkg_scenarios.specs.declared.scenario.Scenario.{Scenario}
use Rattle.checker_input.specs.declared.package.Packages.{Packages}
use Rattle.scenario_runs.specs.declared.job.Job.{Job}
use Rattle.scenario_runs.specs.Runs.{scenario_run}
use Rattle.start_trees.specs.declared.need.Need.{Need}
use Rattle.start_trees.specs.Needs.{IsStart}
use Rattle.package_jobs.specs.Written.{written_run}
use Rattle.package_jobs.specs.StartTrees.{IsStartTree}
use Rattle.scenario_outcomes.specs.declared.outcome.OutcomesFault.{OutcomesFault}
use Rattle.scenario_outcomes.specs.declared.outcome.OutcomesFault.TheVariants as outcomes
use Rattle.outcome_report.specs.declared.outcome_report.ReportPart.{ReportPart}
use Rattle.outcome_report.specs.OutcomeReport.{PartAnswers}
use Rattle.outcome_report.proofs.Carrying.{parts_carry_over}
use Rattle.checker_calls.specs.declared.faults.TaskFault.{TaskFault}
use Rattle.checker_calls.specs.Reports.{task_fault, IsPartOf, IsFault}

module _ (packages : Packages) (turns limit : ℕ) (scenario : Scenario) (job : Job) (needs : List Need)
    (runs : (tree : Value) → scenario_run job tree ≡ written_run scenario packages turns tree)
    (starts : (tree : Value) → IsStart needs tree ↔ IsStartTree scenario packages tree) where
  -- what is answered of the job and the needs is answered of the written run and the start trees
  carried : (result : Result ReportPart OutcomesFault) → PartAnswers (scenario_run job) (IsStart needs) limit result
      → PartAnswers (written_run scenario packages turns) (IsStartTree scenario packages) limit result
  carried result answers =
      parts_carry_over (scenario_run job) (written_run scenario packages turns) (IsStart needs) (IsStartTree scenario packages)
      (record { runs = runs; starts = starts }) limit result answers

  pub part_reported : (part : ReportPart) → part.scenario ≡ scenario
      → PartAnswers (scenario_run job) (IsStart needs) limit (Ok part) → IsPartOf packages turns limit scenario part
  part_reported part same answers =
      let all = carried (Ok part) answers in
      record { of_scenario = same; exact = all.0; bounded = record { starts = all.1; few = all.2 } }

  is_fault : (fault : OutcomesFault) → PartAnswers (scenario_run job) (IsStart needs) limit (Err fault)
      → IsFault packages turns limit scenario (task_fault scenario limit fault)
  is_fault outcomes.NoStart answers = (refl, carried (Err outcomes.NoStart) answers)
  is_fault outcomes.Over answers = (refl, refl, carried (Err outcomes.Over) answers)
  is_fault outcomes.Memory answers = tt

  -- the fault of a task that is made of this fault
  pub faulted : (fault : OutcomesFault) (made : TaskFault) → made ≡ task_fault scenario limit fault
      → PartAnswers (scenario_run job) (IsStart needs) limit (Err fault) → IsFault packages turns limit scenario made
  faulted fault made is answers = subst (IsFault packages turns limit scenario) (sym is) (is_fault fault answers)
