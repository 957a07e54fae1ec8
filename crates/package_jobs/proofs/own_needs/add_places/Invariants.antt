use Rattle.std.proofs.Common.{◌≡◌, ◌++◌}
use Rattle.package_jobs.specs.StartTrees.{places_to}
use Rattle.package_jobs.proofs.own_needs.add_places.Given as goal

abbrev pub invariant-loop-count : goal.invariant-loop-count
invariant-loop-count l = l.places ≡ l.initial.places ++ places_to l.links l.names l.count
