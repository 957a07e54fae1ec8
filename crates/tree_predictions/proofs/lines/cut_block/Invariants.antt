use Rattle.std.proofs.Common.{length}
use Rattle.tree_predictions.specs.Blocks.{IsFront}
use Rattle.tree_predictions.proofs.lines.cut_block.Given as goal

abbrev pub invariant-loop-line : goal.invariant-loop-line
invariant-loop-line l = IsFront l.text l.lines l.left

abbrev pub decreases-loop-line : goal.decreases-loop-line
decreases-loop-line l = length l.left
