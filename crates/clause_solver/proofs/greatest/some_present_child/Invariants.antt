use Rattle.clause_solver.specs.ReplacedNames.{names}
use Rattle.clause_solver.proofs.HasEntries.{NonePresent}
use Rattle.clause_solver.proofs.Links.{left_of}
use Rattle.clause_solver.proofs.greatest.some_present_child.Given as goal

abbrev pub invariant-entries : goal.invariant-entries
invariant-entries l = NonePresent l.vars l.best l.x (names l.replaced) l.here

abbrev pub decreases-entries : goal.decreases-entries
decreases-entries l = left_of l.here
