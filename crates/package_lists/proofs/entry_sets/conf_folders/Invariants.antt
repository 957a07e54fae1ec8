use Rattle.std.proofs.Common.{◌≡◌, ℕ, List, take}
use Rattle.package_lists.specs.Entries.{has_conf_below}
use Rattle.package_lists.specs.PathSets.{has}
use Rattle.package_lists.proofs.entry_sets.conf_folders.Given as goal

abbrev pub invariant-loop-entry : goal.invariant-loop-entry
invariant-loop-entry l = (path : List ℕ) → has l.set path ≡ has_conf_below (take l.entry-index l.entries) path
