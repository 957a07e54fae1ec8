use Rattle.std.proofs.Common.{◌≡◌, ◌+◌, ◌-◌, ◌++◌, length}
use Rattle.utility_calls.specs.Acts.{place_of}
use Rattle.act_cases.specs.Moves.{second_cases}
use Rattle.act_cases.proofs.making.add_seconds.Given as goal

abbrev pub invariant-loop-i : goal.invariant-loop-i
invariant-loop-i l = l.cases ++ second_cases l.act (l.i + 1) (length (place_of l.act) - 1 - l.i) ≡ l.fn.cases ++ second_cases l.act 1 (length (place_of l.act) - 1)
