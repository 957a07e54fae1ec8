use Rattle.std.proofs.Common.{◌≡◌, ◌+◌, ◌*◌, drop}
use Rattle.feature_trees.specs.Readable.{entries_bytes}
use Rattle.feature_trees.specs.Shape.{weight, count_all}
use Rattle.feature_trees.specs.View.{node_of}
use Rattle.report_text.proofs.representable_trees.+tree.Given as goal

abbrev pub decreases-are_of_bytes : goal.decreases-are_of_bytes
decreases-are_of_bytes l = 2 * count_all l.entries.now

abbrev pub decreases-is_of_bytes : goal.decreases-is_of_bytes
decreases-is_of_bytes l = 2 * weight (node_of l.tree.now) + 1

abbrev pub invariant-are_of_bytes-loop-at : goal.invariant-are_of_bytes-loop-at
invariant-are_of_bytes-loop-at l = entries_bytes (drop l.at l.entries) ≡ entries_bytes l.entries
