use Rattle.std.proofs.Common.{◌≡◌, length}
use Rattle.std.specs.List.{list_any}
use Rattle.fact_boxes.specs.Boxes.{differs}
use Rattle.fact_boxes.proofs.boxes.one_differs.Given as goal

abbrev pub invariant-loop-left : goal.invariant-loop-left
invariant-loop-left l =
    list_any (λ o. differs l.rows l.row l.k o) l.left ≡ list_any (λ o. differs l.rows l.row l.k o) l.outs

abbrev pub decreases-loop-left : goal.decreases-loop-left
decreases-loop-left l = length l.left
