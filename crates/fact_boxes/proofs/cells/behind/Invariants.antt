use Rattle.std.proofs.Common.{◌≡◌, length}
use Rattle.fact_boxes.specs.Cells.{behind}
use Rattle.fact_boxes.proofs.cells.behind.Given as goal

abbrev pub invariant-loop-above : goal.invariant-loop-above
invariant-loop-above l =
    behind l.above l.names ≡ behind l.fn.above l.fn.names

abbrev pub decreases-loop-above : goal.decreases-loop-above
decreases-loop-above l = length l.above
