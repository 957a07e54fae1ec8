use Rattle.std.proofs.Common.{◌≡◌}
use Rattle.feature_trees.specs.Tree.{entry}
use Rattle.tree_clauses.specs.Cells.{value_at}
use Rattle.tree_clauses.proofs.cells.Cells.entry.Given as goal

abbrev pub invariant-loop-found : goal.invariant-loop-found
invariant-loop-found l = entry (value_at l.self l.here) l.f ≡ entry (value_at l.self l.at) l.f

abbrev pub decreases-loop-found : goal.decreases-loop-found
decreases-loop-found l = l.here
