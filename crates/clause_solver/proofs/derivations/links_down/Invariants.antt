use Rattle.clause_solver.proofs.Following.{AreKnownDown}
use Rattle.clause_solver.proofs.Links.{left_of}
use Rattle.clause_solver.proofs.derivations.links_down.Given as goal

abbrev pub invariant-directories : goal.invariant-directories
invariant-directories l = AreKnownDown l.vars l.kin l.x l.f l.links l.from l.here

abbrev pub decreases-directories : goal.decreases-directories
decreases-directories l = left_of l.here
