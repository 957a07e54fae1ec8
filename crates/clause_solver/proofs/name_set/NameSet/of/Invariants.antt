use Rattle.std.proofs.Common.{◌≡◌, ℕ, List, take}
use Rattle.clause_solver.specs.NameSets.{has}
use Rattle.clause_solver.specs.Variables.{member}
use Rattle.clause_solver.proofs.name_set.NameSet.of.Given as goal

abbrev pub invariant-loop-name : goal.invariant-loop-name
invariant-loop-name l = (f : List ℕ) → has l.set f ≡ member f (take l.name-index l.names)
