use Rattle.std.proofs.Common.{◌≡◌, drop}
use Rattle.feature_trees.specs.Tree.{at}
use Rattle.tree_predictions.proofs.looks.kind_at.Given as goal

abbrev pub invariant-loop-f : goal.invariant-loop-f
invariant-loop-f l = at l.here (drop l.f-index l.names) ≡ at l.tree l.names
