use Rattle.std.proofs.Common.{◌≡◌, ◌++◌, take}
use Rattle.std.specs.List.{flat_map}
use Rattle.package_lists.specs.PathSets.{has}
use Rattle.package_jobs.specs.Needed.{gone_needs}
use Rattle.package_jobs.proofs.gone_needs.add_gone_entries.Given as goal

abbrev pub invariant-loop-entry : goal.invariant-loop-entry
invariant-loop-entry l = l.needs ≡ l.initial.needs ++ flat_map (gone_needs l.base (has l.above)) (take l.entry-index l.new)
