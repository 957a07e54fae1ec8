use Rattle.scenario_runs.specs.Runs.{scenario_run}
use Rattle.start_trees.specs.Needs.{IsStart}
use Rattle.report_text.specs.declared.told_part.Telling.TheVariants.{Wholly}
use Rattle.checker_calls.proofs.Accounts.{part_told}
use Rattle.checker_calls.proofs.account.ToldPartAccount.of_job.Goals as goal

pub returns : goal.returns
returns c =
    part_told (scenario_run c.args.job.now) (IsStart c.args.needs.now) c.args.limit c.args.job.now.scenario Wholly
    c.tell_part-told.result c.tell_part-told.ensures
