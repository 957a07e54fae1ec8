use Rattle.std.proofs.Common.{◌≡◌, ◌++◌, map, take}
use Rattle.package_jobs.specs.Needed.{known_need}
use Rattle.package_jobs.proofs.needs.add_known.Given as goal

abbrev pub invariant-loop-one : goal.invariant-loop-one
invariant-loop-one l = l.needs ≡ l.initial.needs ++ map known_need (take l.one-index l.known)
