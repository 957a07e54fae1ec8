use Rattle.shell_rules.proofs.PlannedActs.{planned_performed}
use Rattle.shell_rules.proofs.theorems.planned_acts_are_performed.Goals as goal

pub returns : goal.returns
returns c = planned_performed
