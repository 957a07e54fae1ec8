use Rattle.std.proofs.Common.{◌≡◌, ℕ, List, take}
use Rattle.package_lists.specs.Entries.{has_at}
use Rattle.package_lists.specs.EntrySets.{is_which}
use Rattle.package_lists.specs.PathSets.{has}
use Rattle.package_lists.proofs.entry_sets.paths_of.Given as goal

abbrev pub invariant-loop-entry : goal.invariant-loop-entry
invariant-loop-entry l = (path : List ℕ) → has l.set path ≡ has_at (is_which l.which) (take l.entry-index l.entries) path
