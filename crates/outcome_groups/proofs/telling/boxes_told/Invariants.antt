use Rattle.std.proofs.Common.{◌≡◌, ◌++◌, map, length}
use Rattle.outcome_groups.specs.Groups.{box_of, decides}
use Rattle.outcome_groups.proofs.telling.boxes_told.Given as goal

abbrev pub invariant-loop-left : goal.invariant-loop-left
invariant-loop-left l =
    l.told ++ map (box_of l.columns (decides l.rows l.pairs l.end)) l.left ≡ map (box_of l.columns (decides l.rows l.pairs l.end)) l.boxes

abbrev pub decreases-loop-left : goal.decreases-loop-left
decreases-loop-left l = length l.left
