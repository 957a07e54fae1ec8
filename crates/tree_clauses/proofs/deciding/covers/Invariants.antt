use Rattle.std.proofs.Common.{true, length}
use Rattle.tree_clauses.specs.KnownValues.{known_in}
use Rattle.tree_clauses.proofs.Passing.{Going}
use Rattle.tree_clauses.proofs.deciding.covers.Given as goal

abbrev pub invariant-loop-left : goal.invariant-loop-left
invariant-loop-left l = Going l.clause.start.0 l.tree l.clause.literals (known_in l.values) l.left true

abbrev pub decreases-loop-left : goal.decreases-loop-left
decreases-loop-left l = length l.left
