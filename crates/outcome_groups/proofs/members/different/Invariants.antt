use Rattle.std.proofs.Common.{◌≡◌, [], length}
use Rattle.outcome_groups.specs.Groups.{different}
use Rattle.outcome_groups.proofs.members.different.Given as goal

abbrev pub invariant-loop-left : goal.invariant-loop-left
invariant-loop-left l =
    different l.found l.left ≡ different [] l.ends

abbrev pub decreases-loop-left : goal.decreases-loop-left
decreases-loop-left l = length l.left
