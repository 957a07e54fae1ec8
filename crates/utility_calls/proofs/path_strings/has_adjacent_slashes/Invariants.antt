use Rattle.std.proofs.Common.{◌≡◌, length}
use Rattle.utility_calls.specs.PathStrings.{has_adjacent_slashes}
use Rattle.utility_calls.proofs.path_strings.has_adjacent_slashes.Given as goal

abbrev pub invariant-loop-left : goal.invariant-loop-left
invariant-loop-left l = has_adjacent_slashes l.left ≡ has_adjacent_slashes l.word

abbrev pub decreases-loop-left : goal.decreases-loop-left
decreases-loop-left l = length l.left
