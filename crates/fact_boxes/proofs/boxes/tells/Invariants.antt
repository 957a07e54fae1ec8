use Rattle.std.proofs.Common.{◌≡◌, length}
use Rattle.fact_boxes.specs.Boxes.{tells}
use Rattle.fact_boxes.proofs.boxes.tells.Given as goal

abbrev pub invariant-loop-left : goal.invariant-loop-left
invariant-loop-left l =
    tells l.rows l.left l.row ≡ tells l.rows l.outs l.row

abbrev pub decreases-loop-left : goal.decreases-loop-left
decreases-loop-left l = length l.left
