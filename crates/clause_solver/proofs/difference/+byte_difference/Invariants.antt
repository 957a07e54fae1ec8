use Rattle.std.proofs.Common.{length}
use Rattle.clause_solver.proofs.difference.+byte_difference.Given as goal

abbrev pub decreases-byte_difference : goal.decreases-byte_difference
decreases-byte_difference l = length l.f.now
