-- What holds of the runs of packages as they are written.
use Rattle.std.specs.Prelude.{◌≡◌, ℕ, ◌+◌, false, Some}
use Rattle.feature_trees.specs.declared.value.Value.{Value}
use Rattle.dpkg_scenarios.specs.declared.scenario.Scenario.{Scenario}
use Rattle.checker_input.specs.declared.package.Packages.{Packages}
use Rattle.scenario_runs.specs.declared.replayed.Replayed.{Replayed}
use Rattle.scenario_runs.specs.Laws.{is_bound}
use Rattle.package_jobs.specs.Written.{written_run}

-- The run of a scenario from a tree that did not end for want of a turn of a loop is, with more turns, the same run, in
-- ending, trace, tree, calls and deeds.
abbrev pub MoreTurnsSameRun : Type 0
MoreTurnsSameRun =
    (scenario : Scenario) (packages : Packages) (turns more : ℕ) (tree : Value) (run : Replayed)
    → written_run scenario packages turns tree ≡ Some run → is_bound run.ending ≡ false
    → written_run scenario packages (turns + more) tree ≡ Some run
