use Rattle.std.proofs.Common.{◌≡◌, length}
use Rattle.text_tests.proofs.shared_lists.counted.Given as goal

abbrev pub invariant-loop-number : goal.invariant-loop-number
invariant-loop-number g l = length l.list ≡ l.number
