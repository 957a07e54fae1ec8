use Rattle.std.proofs.Common.{◌≡◌, ◌++◌, length}
use Rattle.utility_calls.specs.Operands.{first_reason, all_acts}
use Rattle.utility_calls.proofs.operands.read_all.Given as goal

abbrev pub invariant-loop-left : goal.invariant-loop-left
invariant-loop-left l =
    (first_reason l.each l.ended l.words ≡ first_reason l.each l.ended l.left)
    × (l.all ++ all_acts l.each l.left ≡ all_acts l.each l.words)

abbrev pub decreases-loop-left : goal.decreases-loop-left
decreases-loop-left l = length l.left
