use Rattle.std.proofs.Common.{◌≡◌, length}
use Rattle.utility_calls.specs.Acts.{is_prefix}
use Rattle.utility_calls.proofs.places.is_prefix.Given as goal

abbrev pub invariant-loop-right : goal.invariant-loop-right
invariant-loop-right l = is_prefix l.p l.q ≡ is_prefix l.left l.right

abbrev pub decreases-loop-right : goal.decreases-loop-right
decreases-loop-right l = length l.right
