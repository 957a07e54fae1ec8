use Rattle.std.proofs.Common.{◌≡◌, ◌-◌, length}
use Rattle.feature_trees.specs.declared.kind.Kind.TheVariants.{Dir}
use Rattle.feature_trees.specs.Tree.{kind_of}
use Rattle.dpkg_scenarios.specs.Scenarios.{table}
use Rattle.dpkg_scenarios.specs.Steps.{IsStep, turn_of}
use Rattle.scenario_runs.specs.Runs.{plan_of}
use Rattle.scenario_runs.proofs.Walking.{Comes}
use Rattle.scenario_runs.proofs.runs.run.Given as goal

abbrev pub invariant-steps : goal.invariant-steps
invariant-steps l = record {
  step : IsStep l.job.scenario l.step;
  dir : kind_of l.course.tree ≡ Dir;
  comes : Comes (plan_of l.job) l.tree l.step l.course;
}

abbrev pub decreases-steps : goal.decreases-steps
decreases-steps l = length (table l.job.scenario) - turn_of l.job.scenario l.step
