use Rattle.feature_trees.proofs.Printed.{all_item_lines}
use Rattle.feature_trees.proofs.print.+printing.Goals as goal

pub add_entries-returns : goal.add_entries-returns
add_entries-returns t c =
    all_item_lines c.args.items.now c.args.path.now c.loop-item.lines c.args.lines.now c.loop-item.item-index c.requires c.loop-item-test.false c.loop-item.invariant
