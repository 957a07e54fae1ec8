use Rattle.std.proofs.Common.{◌≡◌, ◌+◌, ◌*◌, map, length}
use Rattle.feature_trees.specs.Tree.{entries_of}
use Rattle.tree_clauses.specs.Cells.{value_at, edited, edited_along, AreBelow, AreAllBelow}
use Rattle.tree_clauses.proofs.cells.Cells.+copying.Given as goal

abbrev pub decreases-copy : goal.decreases-copy
decreases-copy l = 3 * l.at + 2

abbrev pub decreases-copy_entries : goal.decreases-copy_entries
decreases-copy_entries l = 3 * l.at + 1

abbrev pub decreases-with_edits : goal.decreases-with_edits
decreases-with_edits l = 3 * l.bound

abbrev pub invariant-copy_entries-loop-edits : goal.invariant-copy_entries-loop-edits
invariant-copy_entries-loop-edits l = record {
  below : AreAllBelow l.at (map (λ e. e.now) l.chain.items);
  leads : edited_along l.self (map (λ e. e.now) l.chain.items) l.entries ≡ entries_of (value_at l.self l.at);
}

abbrev pub decreases-copy_entries-loop-edits : goal.decreases-copy_entries-loop-edits
decreases-copy_entries-loop-edits l = length l.chain.items

abbrev pub invariant-with_edits-loop-left : goal.invariant-with_edits-loop-left
invariant-with_edits-loop-left l = record {
  below : AreBelow l.bound l.left;
  same : edited l.self l.entries l.left ≡ edited l.self l.initial.entries l.edits;
}

abbrev pub decreases-with_edits-loop-left : goal.decreases-with_edits-loop-left
decreases-with_edits-loop-left l = length l.left
