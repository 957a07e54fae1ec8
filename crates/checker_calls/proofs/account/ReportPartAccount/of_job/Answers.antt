use Rattle.scenario_runs.specs.Runs.{scenario_run}
use Rattle.start_trees.specs.Needs.{IsStart}
use Rattle.checker_calls.proofs.Accounts.{part_itself}
use Rattle.checker_calls.proofs.account.ReportPartAccount.of_job.Goals as goal

pub returns : goal.returns
returns c =
    part_itself (scenario_run c.args.job.now) (IsStart c.args.needs.now) c.args.limit c.args.job.now.scenario
    c.make_part-part.result c.make_part-part.ensures.answers c.make_part-part.ensures.scenario
