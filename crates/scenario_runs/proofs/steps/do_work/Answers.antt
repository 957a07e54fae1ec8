use Rattle.dpkg_scenarios.specs.declared.scenario.StepWork.TheVariants.{Restore}
use Rattle.scenario_runs.specs.Runs.{plan_of}
use Rattle.scenario_runs.proofs.Taking.{script_works, line_works}
use Rattle.scenario_runs.proofs.steps.do_work.Goals as goal

pub returns-in-Script-clause-work : goal.returns-in-Script-clause-work
returns-in-Script-clause-work c =
    script_works (plan_of c.args.job.now) c.args.step c.args.course c.in-Script.side c.in-Script.script c.call_step.result c.work.result
    c.work.ensures c.in-Script.is c.call_step.ensures.call

pub returns-in-Restore-clause-work : goal.returns-in-Restore-clause-work
returns-in-Restore-clause-work c =
    line_works (plan_of c.args.job.now) c.args.step c.args.course c.restore.result c.work.result Restore c.work.ensures c.in-Restore.is
    (λ words. c.restore.ensures.work)
