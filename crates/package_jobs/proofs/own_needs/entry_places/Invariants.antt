use Rattle.std.proofs.Common.{◌≡◌, take}
use Rattle.package_jobs.specs.StartTrees.{entry_places}
use Rattle.package_jobs.proofs.own_needs.entry_places.Given as goal

abbrev pub invariant-loop-entry : goal.invariant-loop-entry
invariant-loop-entry l = l.places ≡ entry_places l.links (take l.entry-index l.entries)
