use Rattle.std.proofs.Common.{◌≡◌, length}
use Rattle.fact_boxes.specs.Cells.{anything}
use Rattle.fact_boxes.specs.Rows.{narrowed}
use Rattle.fact_boxes.proofs.rows.narrowed.Given as goal

abbrev pub invariant-loop-left : goal.invariant-loop-left
invariant-loop-left l = narrowed l.column l.cell l.left ≡ narrowed l.column anything l.said

abbrev pub decreases-loop-left : goal.decreases-loop-left
decreases-loop-left l = length l.left
