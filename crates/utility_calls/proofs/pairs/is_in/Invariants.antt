use Rattle.std.proofs.Common.{◌≡◌, ◌++◌, ◌∷◌, [], length}
use Rattle.utility_calls.specs.Pairs.{same_names}
use Rattle.utility_calls.proofs.pairs.is_in.Given as goal

abbrev pub invariant-loop-right : goal.invariant-loop-right
invariant-loop-right l = same_names l.target (l.path ++ l.last ∷ []) ≡ same_names l.left (l.right ++ l.last ∷ [])

abbrev pub decreases-loop-right : goal.decreases-loop-right
decreases-loop-right l = length l.right
