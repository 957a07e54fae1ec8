use Rattle.std.proofs.Common.{◌≡◌, length}
use Rattle.fact_boxes.specs.Boxes.{needed}
use Rattle.fact_boxes.proofs.boxes.needed.Given as goal

abbrev pub invariant-loop-columns : goal.invariant-loop-columns
invariant-loop-columns l =
    needed l.rows l.left.outs.items l.columns l.left.row.items ≡ needed l.rows l.fn.outs l.order l.fn.row.items

abbrev pub decreases-loop-columns : goal.decreases-loop-columns
decreases-loop-columns l = length l.columns
