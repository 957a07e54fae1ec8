use Rattle.std.proofs.Common.{◌≡◌, ◌≤◌, ◌+◌, ◌-◌, length}
use Rattle.package_lists.specs.Paths.{folders_to}
use Rattle.package_lists.proofs.paths.folders.Given as goal

abbrev pub invariant-loop-count : goal.invariant-loop-count
invariant-loop-count l = (l.found ≡ folders_to l.names (l.count - 1)) × (l.count ≤ 1 + (length l.names - 1))
