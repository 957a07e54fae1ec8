use Rattle.std.proofs.Common.{◌≡◌, ◌≤◌, ◌+◌, ◌-◌, ◌++◌, length}
use Rattle.settled_commands.specs.Sorts.{ways_to}
use Rattle.settled_commands.proofs.sorts.add_ways.Given as goal

abbrev pub invariant-loop-count : goal.invariant-loop-count
invariant-loop-count l =
    (l.known ≡ l.initial.known ++ ways_to l.path.names (l.count - 1)) × (l.count ≤ 1 + (length l.path.names - 1))
