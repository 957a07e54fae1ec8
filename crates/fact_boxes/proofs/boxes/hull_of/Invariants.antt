use Rattle.std.proofs.Common.{◌≡◌, length}
use Rattle.fact_boxes.specs.Boxes.{hull_of}
use Rattle.fact_boxes.proofs.boxes.hull_of.Given as goal

abbrev pub invariant-loop-left : goal.invariant-loop-left
invariant-loop-left l =
    hull_of l.rows l.hull l.left ≡ hull_of l.rows l.row l.members

abbrev pub decreases-loop-left : goal.decreases-loop-left
decreases-loop-left l = length l.left
