use Rattle.std.proofs.Common.{◌≡◌, length}
use Rattle.outcome_groups.specs.Groups.{begins_with}
use Rattle.outcome_groups.proofs.pairs.begins_with.Given as goal

abbrev pub invariant-loop-marks : goal.invariant-loop-marks
invariant-loop-marks l =
    begins_with l.marks l.trace ≡ begins_with l.fn.marks l.fn.trace

abbrev pub decreases-loop-marks : goal.decreases-loop-marks
decreases-loop-marks l = length l.marks
