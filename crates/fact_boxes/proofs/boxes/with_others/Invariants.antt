use Rattle.std.proofs.Common.{◌≡◌, ◌++◌, length}
use Rattle.fact_boxes.proofs.boxes.with_others.Given as goal

abbrev pub invariant-loop-left : goal.invariant-loop-left
invariant-loop-left l =
    l.all ++ l.left ≡ l.fn.rows ++ l.others

abbrev pub decreases-loop-left : goal.decreases-loop-left
decreases-loop-left l = length l.left
