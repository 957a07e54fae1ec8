use Rattle.scenario_runs.specs.Runs.{scenario_run}
use Rattle.start_trees.specs.Needs.{IsStart}
use Rattle.outcome_groups.proofs.Claim.{groups_are_told}
use Rattle.outcome_groups.proofs.theorems.groups_are_told.Goals as goal

pub returns : goal.returns
returns c = groups_are_told (scenario_run c.args.job.now) (IsStart c.args.needs.now)
