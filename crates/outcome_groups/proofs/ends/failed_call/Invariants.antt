use Rattle.std.proofs.Common.{◌≡◌, length}
use Rattle.outcome_groups.specs.Ends.{failed_call}
use Rattle.outcome_groups.proofs.ends.failed_call.Given as goal

abbrev pub invariant-loop-left : goal.invariant-loop-left
invariant-loop-left l =
    failed_call l.left ≡ failed_call l.calls

abbrev pub decreases-loop-left : goal.decreases-loop-left
decreases-loop-left l = length l.left
