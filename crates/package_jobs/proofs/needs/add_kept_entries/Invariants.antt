use Rattle.std.proofs.Common.{◌≡◌, ◌++◌, take}
use Rattle.std.specs.List.{flat_map}
use Rattle.package_jobs.specs.Needed.{kept_needs}
use Rattle.package_jobs.proofs.needs.add_kept_entries.Given as goal

abbrev pub invariant-loop-entry : goal.invariant-loop-entry
invariant-loop-entry l = l.needs ≡ l.initial.needs ++ flat_map (kept_needs l.links) (take l.entry-index l.entries)
