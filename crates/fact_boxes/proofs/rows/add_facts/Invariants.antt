use Rattle.std.proofs.Common.{◌≡◌, length}
use Rattle.fact_boxes.specs.Rows.{columns_onto}
use Rattle.fact_boxes.proofs.rows.add_facts.Given as goal

abbrev pub invariant-loop-left : goal.invariant-loop-left
invariant-loop-left l =
    columns_onto l.columns l.left ≡ columns_onto l.fn.columns l.said

abbrev pub decreases-loop-left : goal.decreases-loop-left
decreases-loop-left l = length l.left
