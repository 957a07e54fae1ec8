use Rattle.std.proofs.Common.{◌≡◌, length}
use Rattle.clause_solver.specs.Linked.{link_at}
use Rattle.clause_solver.proofs.children.link_at.Given as goal

abbrev pub invariant-loop-left : goal.invariant-loop-left
invariant-loop-left l = link_at l.left l.place ≡ link_at l.links l.place

abbrev pub decreases-loop-left : goal.decreases-loop-left
decreases-loop-left l = length l.left
