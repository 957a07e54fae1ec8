use Rattle.std.proofs.Common.{◌≡◌, take}
use Rattle.shared_table.proofs.node.copied_items.Given as goal

abbrev pub invariant-loop-item : goal.invariant-loop-item
invariant-loop-item g l = l.out.items ≡ take l.item-index l.items
