use Rattle.std.proofs.Common.{◌≡◌, length}
use Rattle.outcome_groups.specs.Ends.{filled_alike}
use Rattle.outcome_groups.proofs.ends.filled_alike.Given as goal

abbrev pub invariant-loop-words : goal.invariant-loop-words
invariant-loop-words l =
    filled_alike l.words l.other ≡ filled_alike l.fn.words l.fn.other

abbrev pub decreases-loop-words : goal.decreases-loop-words
decreases-loop-words l = length l.words
