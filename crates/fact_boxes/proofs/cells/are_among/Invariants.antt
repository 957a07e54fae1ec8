use Rattle.std.proofs.Common.{◌≡◌, length}
use Rattle.fact_boxes.specs.Cells.{are_among}
use Rattle.fact_boxes.proofs.cells.are_among.Given as goal

abbrev pub invariant-loop-left : goal.invariant-loop-left
invariant-loop-left l =
    are_among l.others l.left ≡ are_among l.others l.names

abbrev pub decreases-loop-left : goal.decreases-loop-left
decreases-loop-left l = length l.left
