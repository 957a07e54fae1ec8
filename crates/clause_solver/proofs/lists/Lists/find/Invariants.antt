use Rattle.clause_solver.proofs.Indexing.{IsSought}
use Rattle.clause_solver.proofs.Links.{left_of}
use Rattle.clause_solver.proofs.lists.Lists.find.Given as goal

abbrev pub invariant-entries : goal.invariant-entries
invariant-entries l = IsSought l.self.vars l.of l.f l.here

abbrev pub decreases-entries : goal.decreases-entries
decreases-entries l = left_of l.here
