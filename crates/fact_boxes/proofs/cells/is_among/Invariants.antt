use Rattle.std.proofs.Common.{◌≡◌, length}
use Rattle.tree_clauses.specs.NameSets.{is_among}
use Rattle.fact_boxes.proofs.cells.is_among.Given as goal

abbrev pub invariant-loop-left : goal.invariant-loop-left
invariant-loop-left l =
    is_among l.left l.f ≡ is_among l.names l.f

abbrev pub decreases-loop-left : goal.decreases-loop-left
decreases-loop-left l = length l.left
