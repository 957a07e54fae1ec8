use Rattle.std.proofs.Common.{◌≡◌, ◌++◌, length}
use Rattle.clause_solver.specs.Linked.{between}
use Rattle.clause_solver.proofs.children.add_between.Given as goal

abbrev pub invariant-loop-left : goal.invariant-loop-left
invariant-loop-left l = l.links ++ between l.low l.high l.left ≡ l.initial.links ++ between l.low l.high l.own

abbrev pub decreases-loop-left : goal.decreases-loop-left
decreases-loop-left l = length l.left
