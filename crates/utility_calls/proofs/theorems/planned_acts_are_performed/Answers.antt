use Rattle.utility_calls.proofs.Performed.{performed}
use Rattle.utility_calls.proofs.theorems.planned_acts_are_performed.Goals as goal

pub returns : goal.returns
returns c = performed
