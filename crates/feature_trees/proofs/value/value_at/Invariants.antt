use Rattle.std.proofs.Common.{◌≡◌, drop}
use Rattle.feature_trees.specs.Tree.{at}
use Rattle.feature_trees.proofs.value.value_at.Given as goal

abbrev pub invariant-loop-f : goal.invariant-loop-f
invariant-loop-f l = at l.here (drop l.f-index l.names) ≡ at l.from l.names
