use Rattle.std.proofs.Common.{◌≡◌, map, take}
use Rattle.std.specs.List.{flat_map}
use Rattle.package_jobs.specs.FileActs.{removed_old}
use Rattle.package_lists.specs.PathSets.{has}
use Rattle.package_jobs.proofs.step_acts.remove_old.Given as goal

abbrev pub invariant-loop-entry : goal.invariant-loop-entry
invariant-loop-entry l = l.acts ≡ flat_map (removed_old (has l.listed) (has l.kept)) (map (λ entry. entry.now) (take l.entry-index l.entries))
