use Rattle.std.proofs.Common.{◌≡◌, ◌+◌, ◌≤◌, All, length}
use Rattle.feature_trees.specs.Sound.{IsTree}
use Rattle.feature_trees.specs.TreeLines.{text_lines}
use Rattle.tree_predictions.specs.Blocks.{AreAtHead}
use Rattle.tree_predictions.specs.NamedTrees.{with_lines, trees_of}
use Rattle.tree_predictions.proofs.read.read_trees.Given as goal

abbrev pub invariant-loop-left : goal.invariant-loop-left
invariant-loop-left l =
    (l.number + length l.left ≤ length l.text) × AreAtHead (text_lines l.left)
    × (with_lines (l.number + 1) l.trees (text_lines l.left) ≡ trees_of l.text) × All (λ named. IsTree named.tree) l.trees

abbrev pub decreases-loop-left : goal.decreases-loop-left
decreases-loop-left l = length l.left
