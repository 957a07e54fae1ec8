use Rattle.std.proofs.Common.{◌≡◌, ◌++◌}
use Rattle.fact_boxes.specs.Boxes.{numbers_below}
use Rattle.fact_boxes.proofs.boxes.numbers_below.Given as goal

abbrev pub invariant-loop-k : goal.invariant-loop-k
invariant-loop-k l =
    l.numbers ++ numbers_below l.k ≡ numbers_below l.n

abbrev pub decreases-loop-k : goal.decreases-loop-k
decreases-loop-k l = l.k
