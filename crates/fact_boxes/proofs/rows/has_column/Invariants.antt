use Rattle.std.proofs.Common.{◌≡◌, length}
use Rattle.std.specs.List.{list_any}
use Rattle.fact_boxes.specs.Rows.{same_column}
use Rattle.fact_boxes.proofs.rows.has_column.Given as goal

abbrev pub invariant-loop-left : goal.invariant-loop-left
invariant-loop-left l =
    list_any (same_column (record { place = l.place; but = l.but })) l.left ≡ list_any (same_column (record { place = l.place; but = l.but })) l.columns

abbrev pub decreases-loop-left : goal.decreases-loop-left
decreases-loop-left l = length l.left
