use Rattle.scenario_runs.specs.Runs.{scenario_run}
use Rattle.checker_calls.proofs.Explained.{part_is_shown}
use Rattle.checker_calls.proofs.explanations.put_shown_part.Goals as goal

pub returns : goal.returns
returns c =
    part_is_shown c.args.packages.now c.args.sources.now c.args.turns c.args.part.now
    (scenario_run c.in_ok-job.job) _ _ c.put_page_part.result c.in_ok-job.ensures.run c.put_page_part.ensures
