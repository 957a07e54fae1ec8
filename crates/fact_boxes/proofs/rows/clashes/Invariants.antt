use Rattle.std.proofs.Common.{◌≡◌, length}
use Rattle.fact_boxes.specs.Rows.{clashes}
use Rattle.fact_boxes.proofs.rows.clashes.Given as goal

abbrev pub invariant-loop-a : goal.invariant-loop-a
invariant-loop-a l =
    clashes l.a l.b ≡ clashes l.fn.a l.fn.b

abbrev pub decreases-loop-a : goal.decreases-loop-a
decreases-loop-a l = length l.a
