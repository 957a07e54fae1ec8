use Rattle.std.proofs.Common.{◌≡◌, map, take}
use Rattle.package_lists.specs.Conffiles.{marked_entry}
use Rattle.package_lists.specs.PathSets.{has}
use Rattle.package_lists.proofs.conffiles.mark.Given as goal

abbrev pub invariant-loop-entry : goal.invariant-loop-entry
invariant-loop-entry l = l.all ≡ map (marked_entry (has l.named)) (take l.entry-index l.entries)
