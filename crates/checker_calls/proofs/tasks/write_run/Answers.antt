use Rattle.checker_calls.proofs.Runs.{run_is}
use Rattle.checker_calls.proofs.tasks.write_run.Goals as goal

pub returns : goal.returns
returns c =
    run_is c.args.packages.now c.args.tree.now c.args.scenario c.args.turns c.in_ok-job.job c.in_ok-replayed.replayed c.in_ok-text.text c.run_status-status.result
    c.in_ok-job.ensures.run c.in_ok-replayed.ensures c.in_ok-text.ensures c.run_status-status.ensures
