use Rattle.std.proofs.Common.{◌≡◌, ◌++◌, length}
use Rattle.fact_boxes.specs.Boxes.{all_shortened}
use Rattle.fact_boxes.proofs.boxes.all_shortened.Given as goal

abbrev pub invariant-loop-left : goal.invariant-loop-left
invariant-loop-left l =
    l.less ++ all_shortened l.rows l.outs l.left ≡ all_shortened l.rows l.outs l.boxes

abbrev pub decreases-loop-left : goal.decreases-loop-left
decreases-loop-left l = length l.left
