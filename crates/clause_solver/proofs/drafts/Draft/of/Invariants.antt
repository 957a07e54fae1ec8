use Rattle.clause_solver.proofs.Drafted.{AreGivenTo}
use Rattle.clause_solver.proofs.drafts.Draft.of.Given as goal

abbrev pub invariant-loop-i : goal.invariant-loop-i
invariant-loop-i l = AreGivenTo l.fn.lists l.given l.i l.draft
