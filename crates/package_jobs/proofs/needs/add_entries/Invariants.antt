use Rattle.std.proofs.Common.{◌≡◌, ◌++◌, map, take}
use Rattle.package_jobs.specs.Needed.{entry_need}
use Rattle.package_jobs.proofs.needs.add_entries.Given as goal

abbrev pub invariant-loop-entry : goal.invariant-loop-entry
invariant-loop-entry l = l.needs ≡ l.initial.needs ++ map (entry_need l.asked l.links) (take l.entry-index l.entries)
