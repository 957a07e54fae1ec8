use Rattle.clause_solver.proofs.Following.{IsFollowed}
use Rattle.clause_solver.proofs.Links.{left_of}
use Rattle.clause_solver.proofs.lists.Lists.resolve.Given as goal

abbrev pub invariant-directories : goal.invariant-directories
invariant-directories l = IsFollowed l.self.vars l.self.kin l.x l.f l.here

abbrev pub decreases-directories : goal.decreases-directories
decreases-directories l = left_of l.here
