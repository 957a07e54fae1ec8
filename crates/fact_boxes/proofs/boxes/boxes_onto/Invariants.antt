use Rattle.std.proofs.Common.{◌≡◌, [], length}
use Rattle.fact_boxes.specs.Boxes.{boxes_onto}
use Rattle.fact_boxes.proofs.boxes.boxes_onto.Given as goal

abbrev pub invariant-loop-left : goal.invariant-loop-left
invariant-loop-left l =
    boxes_onto l.rows l.outs l.boxes l.left ≡ boxes_onto l.rows l.outs [] l.members

abbrev pub decreases-loop-left : goal.decreases-loop-left
decreases-loop-left l = length l.left
