use Rattle.clause_solver.proofs.Indexing.{AreKnown}
use Rattle.clause_solver.proofs.Links.{left_of}
use Rattle.clause_solver.proofs.children.links_of.Given as goal

abbrev pub invariant-entries : goal.invariant-entries
invariant-entries l = AreKnown l.vars l.p l.f l.links l.from l.here

abbrev pub decreases-entries : goal.decreases-entries
decreases-entries l = left_of l.here
