use Rattle.std.proofs.Common.{◌≡◌, take}
use Rattle.std.specs.List.{flat_map}
use Rattle.package_jobs.specs.FileActs.{unpacked}
use Rattle.package_lists.specs.PathSets.{has}
use Rattle.package_jobs.proofs.step_acts.unpack.Given as goal

abbrev pub invariant-loop-entry : goal.invariant-loop-entry
invariant-loop-entry l = l.acts ≡ flat_map (unpacked l.placed (has l.old)) (take l.entry-index l.entries)
