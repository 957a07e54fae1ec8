use Rattle.std.proofs.Common.{◌≡◌, take}
use Rattle.feature_trees.proofs.same.+copying.Given as goal

abbrev pub invariant-copy_items-loop-item : goal.invariant-copy_items-loop-item
invariant-copy_items-loop-item l = l.out.items ≡ take l.item-index l.items
