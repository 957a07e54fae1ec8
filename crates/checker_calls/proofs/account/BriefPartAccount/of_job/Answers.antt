use Rattle.scenario_runs.specs.Runs.{scenario_run}
use Rattle.start_trees.specs.Needs.{IsStart}
use Rattle.checker_calls.proofs.Accounts.{part_briefly_told}
use Rattle.checker_calls.proofs.account.BriefPartAccount.of_job.Goals as goal

pub returns-in-Ok : goal.returns-in-Ok
returns-in-Ok c =
    part_briefly_told (scenario_run c.args.job.now) (IsStart c.args.needs.now) c.args.limit c.args.job.now.scenario
    c.in-Ok.told c.in-Ok.ensures
