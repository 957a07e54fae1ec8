use Rattle.std.proofs.Common.{◌≡◌, ◌++◌, length}
use Rattle.outcome_groups.specs.Groups.{rows_in}
use Rattle.outcome_groups.proofs.telling.part_rows.Given as goal

abbrev pub invariant-loop-left : goal.invariant-loop-left
invariant-loop-left l =
    l.rows ++ rows_in l.columns l.left ≡ rows_in l.columns l.entries

abbrev pub decreases-loop-left : goal.decreases-loop-left
decreases-loop-left l = length l.left
