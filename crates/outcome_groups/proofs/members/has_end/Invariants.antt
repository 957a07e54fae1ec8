use Rattle.std.proofs.Common.{◌≡◌, length}
use Rattle.std.specs.List.{list_any}
use Rattle.outcome_groups.specs.Ends.{same_end}
use Rattle.outcome_groups.proofs.members.has_end.Given as goal

abbrev pub invariant-loop-left : goal.invariant-loop-left
invariant-loop-left l =
    list_any (same_end l.end) l.left ≡ list_any (same_end l.end) l.ends

abbrev pub decreases-loop-left : goal.decreases-loop-left
decreases-loop-left l = length l.left
