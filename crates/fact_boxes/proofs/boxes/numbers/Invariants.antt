use Rattle.std.proofs.Common.{◌≡◌}
use Rattle.fact_boxes.specs.Boxes.{numbers_to}
use Rattle.fact_boxes.proofs.boxes.numbers.Given as goal

abbrev pub invariant-loop-k : goal.invariant-loop-k
invariant-loop-k l =
    l.numbers ≡ numbers_to l.k
