use Rattle.scenario_runs.proofs.Deciding.{runs_decide, decisions_played}
use Rattle.scenario_runs.proofs.theorems.scenario_runs_are_decided.Goals as goal

pub returns-clause-decided : goal.returns-clause-decided
returns-clause-decided c = runs_decide c.scenarios_end.ensures.forward

pub returns-clause-played : goal.returns-clause-played
returns-clause-played c = decisions_played c.scenarios_end.ensures.forward
