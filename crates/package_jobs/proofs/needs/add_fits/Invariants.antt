use Rattle.std.proofs.Common.{◌≡◌, ◌++◌, take}
use Rattle.std.specs.List.{flat_map}
use Rattle.package_lists.specs.PathSets.{has}
use Rattle.package_jobs.specs.Needed.{fit_needs}
use Rattle.package_jobs.proofs.needs.add_fits.Given as goal

abbrev pub invariant-loop-entry : goal.invariant-loop-entry
invariant-loop-entry l = l.needs ≡ l.initial.needs ++ flat_map (fit_needs l.which (has l.listed) l.links) (take l.entry-index l.new)
