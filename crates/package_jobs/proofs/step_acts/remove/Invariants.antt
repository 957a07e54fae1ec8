use Rattle.std.proofs.Common.{◌≡◌, map, take}
use Rattle.std.specs.List.{flat_map}
use Rattle.package_jobs.specs.FileActs.{removed}
use Rattle.package_lists.specs.PathSets.{has}
use Rattle.package_jobs.proofs.step_acts.remove.Given as goal

abbrev pub invariant-loop-entry : goal.invariant-loop-entry
invariant-loop-entry l = l.acts ≡ flat_map (removed (has l.kept)) (map (λ entry. entry.now) (take l.entry-index l.entries))
