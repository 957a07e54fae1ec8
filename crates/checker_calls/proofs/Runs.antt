-- The text of a run and its status, from what is answered of its job.
use Rattle.std.proofs.Common.{◌≡◌, ◌≤◌, ℕ, List, Some, sym, subst, arith, ◌∙◌}
use Rattle.feature_trees.specs.declared.value.Value.{Value}
use Rattle.dpkg_scenarios.specs.declared.scenario.Scenario.{Scenario}
use Rattle.dpkg_scenarios.specs.declared.scenario.Ending.{Ending}
use Rattle.dpkg_scenarios.specs.declared.scenario.Ending.TheVariants as ending
use Rattle.checker_input.specs.declared.package.Packages.{Packages}
use Rattle.scenario_runs.specs.declared.job.Job.{Job}
use Rattle.scenario_runs.specs.declared.replayed.Replayed.{Replayed}
use Rattle.scenario_runs.specs.Runs.{scenario_run}
use Rattle.package_jobs.specs.Written.{written_run}
use Rattle.dpkg_scenarios.specs.Verdicts.{ending_verdict}
use Rattle.report_text.specs.RunText.{run_text}
use Rattle.checker_calls.specs.Tasks.{IsRunOf}

small_verdict : (e : Ending) → ending_verdict e ≤ 2
small_verdict (ending.Done state) = omega arith
small_verdict (ending.Failed state) = omega arith
small_verdict (ending.Incomplete reason site) = omega arith
small_verdict (ending.Bound site) = omega arith

pub run_is : (packages : Packages) (tree : Value) (scenario : Scenario) (turns : ℕ) (job : Job) (run : Replayed) (text : List ℕ) (status : ℕ)
    → ((start : Value) → scenario_run job start ≡ written_run scenario packages turns start) → scenario_run job tree ≡ Some run
    → text ≡ run_text run → status ≡ ending_verdict run.ending → IsRunOf packages tree scenario turns text status
run_is packages tree scenario turns job run text status same is_run text_is status_is = record {
  run = run;
  is_run = sym (same tree) ∙ is_run;
  text_is = text_is;
  status_is = status_is;
  small = subst (λ n. n ≤ 2) (sym status_is) (small_verdict run.ending);
}
