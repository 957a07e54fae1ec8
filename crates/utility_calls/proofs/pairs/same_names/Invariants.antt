use Rattle.std.proofs.Common.{◌≡◌, length}
use Rattle.utility_calls.specs.Pairs.{same_names}
use Rattle.utility_calls.proofs.pairs.same_names.Given as goal

abbrev pub invariant-loop-left : goal.invariant-loop-left
invariant-loop-left l = same_names l.p l.q ≡ same_names l.left l.right

abbrev pub decreases-loop-left : goal.decreases-loop-left
decreases-loop-left l = length l.left
