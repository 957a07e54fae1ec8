use Rattle.std.proofs.Common.{◌≡◌, map, take}
use Rattle.std.specs.List.{flat_map}
use Rattle.package_jobs.specs.FileActs.{conf_gone}
use Rattle.package_jobs.proofs.step_acts.remove_conf.Given as goal

abbrev pub invariant-loop-entry : goal.invariant-loop-entry
invariant-loop-entry l = l.acts ≡ flat_map conf_gone (map (λ entry. entry.now) (take l.entry-index l.entries))
