use Rattle.std.proofs.Common.{◌≡◌, ◌++◌, take}
use Rattle.std.specs.List.{flat_map}
use Rattle.feature_trees.proofs.Printed.{item_lines}
use Rattle.feature_trees.proofs.print.+printing.Given as goal

abbrev pub invariant-add_entries-loop-item : goal.invariant-add_entries-loop-item
invariant-add_entries-loop-item l = l.lines ≡ l.initial.lines ++ flat_map (item_lines l.path) (take l.item-index l.items)
