use Rattle.std.proofs.Common.{◌≡◌, ◌++◌, map, length}
use Rattle.outcome_groups.specs.Groups.{group_of}
use Rattle.outcome_groups.proofs.telling.groups_in.Given as goal

abbrev pub invariant-loop-left : goal.invariant-loop-left
invariant-loop-left l =
    l.groups ++ map (group_of l.ends l.pairs l.columns l.rows) l.left ≡ map (group_of l.ends l.pairs l.columns l.rows) l.found

abbrev pub decreases-loop-left : goal.decreases-loop-left
decreases-loop-left l = length l.left
