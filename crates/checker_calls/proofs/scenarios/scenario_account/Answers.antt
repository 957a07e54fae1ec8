use Rattle.checker_calls.proofs.Accounts.{accounted}
use Rattle.checker_calls.proofs.Parts.{faulted}
use Rattle.checker_calls.proofs.scenarios.scenario_account.Goals as goal

pub returns-in-Ok : goal.returns-in-Ok
returns-in-Ok g c =
    accounted g.A.Account.tells c.args.packages.now c.args.turns c.args.limit c.args.scenario c.in_ok-job.job
    c.in_ok-needs.needs c.in_ok-job.ensures.run c.in_ok-needs.ensures c.in-Ok.account c.in_ok-job.ensures.scenario
    c.in-Ok.ensures

pub returns : goal.returns
returns g c =
    faulted c.args.packages.now c.args.turns c.args.limit c.args.scenario c.in_ok-job.job c.in_ok-needs.needs
    c.in_ok-job.ensures.run c.in_ok-needs.ensures c.in-Err.fault c.task_fault.result c.task_fault.ensures
    c.in-Err.ensures
