use Rattle.std.proofs.Common.{◌≡◌, ◌+◌, length}
use Rattle.feature_trees.specs.Tree.{at}
use Rattle.utility_calls.specs.Ways.{in_dir, link_on_way}
use Rattle.concrete_utils.proofs.walks.walk.Given as goal

abbrev pub invariant-loop-left : goal.invariant-loop-left
invariant-loop-left l = record {
  link : link_on_way l.count l.here l.left ≡ link_on_way l.fn.start l.fn.tree l.fn.names;
  in_dir : in_dir l.here l.left ≡ in_dir l.fn.tree l.fn.names;
  at : at l.here l.left ≡ at l.fn.tree l.fn.names;
  few : l.count + length l.left ≡ l.fn.start + length l.fn.names;
}

abbrev pub decreases-loop-left : goal.decreases-loop-left
decreases-loop-left l = length l.left
