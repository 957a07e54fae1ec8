use Rattle.std.proofs.Common.{◌≡◌, take}
use Rattle.fact_boxes.specs.Rows.{row_of}
use Rattle.fact_boxes.proofs.rows.row_of.Given as goal

abbrev pub invariant-loop-column : goal.invariant-loop-column
invariant-loop-column l = l.row ≡ row_of (take l.column-index l.columns) l.said
