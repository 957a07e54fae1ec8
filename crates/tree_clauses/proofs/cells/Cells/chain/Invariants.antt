use Rattle.std.proofs.Common.{◌≡◌, ◌≤◌, map}
use Rattle.feature_trees.specs.Tree.{entries_of}
use Rattle.tree_clauses.specs.Cells.{value_at, edited_along, AreAllBelow}
use Rattle.tree_clauses.proofs.cells.Cells.chain.Given as goal

abbrev pub invariant-loop-edits : goal.invariant-loop-edits
invariant-loop-edits l = record {
  down : l.here ≤ l.at;
  below : AreAllBelow l.at (map (λ e. e.now) l.edits.items);
  leads :
      edited_along l.self (map (λ e. e.now) l.edits.items) (entries_of (value_at l.self l.here))
      ≡ entries_of (value_at l.self l.at);
}

abbrev pub decreases-loop-edits : goal.decreases-loop-edits
decreases-loop-edits l = l.here
