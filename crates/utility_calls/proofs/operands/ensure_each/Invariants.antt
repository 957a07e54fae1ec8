use Rattle.std.proofs.Common.{◌≡◌, ◌≤◌, ◌+◌, ◌-◌, length}
use Rattle.utility_calls.specs.Operands.{ensured}
use Rattle.utility_calls.proofs.operands.ensure_each.Given as goal

abbrev pub invariant-loop-count : goal.invariant-loop-count
invariant-loop-count l = (l.acts ≡ ensured l.names (l.count - 1)) × (l.count ≤ 1 + (length l.names - 1))
