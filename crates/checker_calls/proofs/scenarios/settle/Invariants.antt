use Rattle.std.proofs.Common.{◌≡◌, ◌++◌, map, Ok}
use Rattle.checker_calls.proofs.scenarios.settle.Given as goal

abbrev pub invariant-loop-result : goal.invariant-loop-result
invariant-loop-result g l = map Ok l.values ++ l.result-iterator.rest.items ≡ l.fn.results
