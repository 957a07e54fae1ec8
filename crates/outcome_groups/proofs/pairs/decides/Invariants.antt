use Rattle.std.proofs.Common.{◌≡◌, length}
use Rattle.outcome_groups.specs.Groups.{decides}
use Rattle.outcome_groups.proofs.pairs.decides.Given as goal

abbrev pub invariant-loop-left : goal.invariant-loop-left
invariant-loop-left l =
    decides l.rows l.left l.end l.k ≡ decides l.rows l.pairs l.end l.k

abbrev pub decreases-loop-left : goal.decreases-loop-left
decreases-loop-left l = length l.left
