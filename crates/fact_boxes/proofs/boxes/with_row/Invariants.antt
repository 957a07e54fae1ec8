use Rattle.std.proofs.Common.{◌≡◌, ◌++◌, length}
use Rattle.fact_boxes.specs.Boxes.{with_row}
use Rattle.fact_boxes.proofs.boxes.with_row.Given as goal

abbrev pub invariant-loop-left : goal.invariant-loop-left
invariant-loop-left l =
    l.more ++ with_row l.rows l.outs l.row l.left ≡ with_row l.rows l.outs l.row l.fn.boxes

abbrev pub decreases-loop-left : goal.decreases-loop-left
decreases-loop-left l = length l.left
