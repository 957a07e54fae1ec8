use Rattle.scenario_runs.proofs.Turning.{plans_same, jobs_same}
use Rattle.scenario_runs.proofs.theorems.more_turns_change_nothing.Goals as goal

pub returns-clause-plans : goal.returns-clause-plans
returns-clause-plans c = plans_same

pub returns-clause-jobs : goal.returns-clause-jobs
returns-clause-jobs c = jobs_same c.runs_are_lawful.ensures.more
