use Rattle.std.proofs.Common.{length}
use Rattle.clause_solver.proofs.new_name.+goes_on.Given as goal

abbrev pub decreases-goes_on : goal.decreases-goes_on
decreases-goes_on l = length l.bytes.now
