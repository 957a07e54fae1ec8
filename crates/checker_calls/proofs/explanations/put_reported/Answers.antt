use Rattle.scenario_runs.specs.Runs.{scenario_run}
use Rattle.checker_calls.proofs.Explained.{part_said}
use Rattle.checker_calls.proofs.explanations.put_reported.Goals as goal

pub returns : goal.returns
returns c =
    part_said c.args.packages.now c.args.sources.now c.args.turns c.args.view c.args.part.now
    (scenario_run c.in_ok-job.job) _ _ c.put_part.result c.in_ok-job.ensures.run c.put_part.ensures
