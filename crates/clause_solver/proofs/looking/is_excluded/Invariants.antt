use Rattle.std.proofs.Common.{length}
use Rattle.clause_solver.proofs.Looked.{IsLooking}
use Rattle.clause_solver.proofs.looking.is_excluded.Given as goal

abbrev pub invariant-loop-left : goal.invariant-loop-left
invariant-loop-left l = IsLooking l.store l.given l.case l.x.0 l.n.0 l.left

abbrev pub decreases-loop-left : goal.decreases-loop-left
decreases-loop-left l = length l.left
