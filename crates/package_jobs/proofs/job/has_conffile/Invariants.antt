use Rattle.std.proofs.Common.{◌≡◌, false, take}
use Rattle.std.specs.List.{list_any}
use Rattle.package_jobs.specs.Written.{is_conffile}
use Rattle.package_jobs.proofs.job.has_conffile.Given as goal

abbrev pub invariant-loop-entry : goal.invariant-loop-entry
invariant-loop-entry l = list_any is_conffile (take l.entry-index l.entries) ≡ false
