use Rattle.std.proofs.Common.{◌≡◌, take, map}
use Rattle.package_lists.specs.Lists.{finished_entry}
use Rattle.package_lists.proofs.list.finish.Given as goal

abbrev pub invariant-loop-entry : goal.invariant-loop-entry
invariant-loop-entry l = l.entries ≡ map (finished_entry l.index.entries) (take l.entry-index l.entry-items)
