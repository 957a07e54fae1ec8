use Rattle.std.proofs.Common.{◌≡◌, ◌+◌, length}
use Rattle.utility_calls.specs.Options.{option_count}
use Rattle.utility_calls.proofs.options.count_options.Given as goal

abbrev pub invariant-loop-left : goal.invariant-loop-left
invariant-loop-left l =
    (l.count + option_count l.left ≡ option_count l.words) × (l.count + length l.left ≡ length l.words)

abbrev pub decreases-loop-left : goal.decreases-loop-left
decreases-loop-left l = length l.left
