use Rattle.std.proofs.Common.{◌≡◌, length}
use Rattle.std.specs.List.{list_all}
use Rattle.fact_boxes.specs.Boxes.{tells}
use Rattle.fact_boxes.proofs.boxes.all_tell.Given as goal

abbrev pub invariant-loop-left : goal.invariant-loop-left
invariant-loop-left l =
    list_all (tells l.rows l.outs) l.left ≡ list_all (tells l.rows l.outs) l.boxes

abbrev pub decreases-loop-left : goal.decreases-loop-left
decreases-loop-left l = length l.left
