use Rattle.std.proofs.Common.{length}
use Rattle.clause_solver.proofs.Drafted.{Going}
use Rattle.clause_solver.proofs.add_case.drafted.Given as goal

abbrev pub invariant-loop-left : goal.invariant-loop-left
invariant-loop-left l = Going l.initial.draft.lists.vars l.given l.case l.left l.draft

abbrev pub decreases-loop-left : goal.decreases-loop-left
decreases-loop-left l = length l.left
