use Rattle.std.proofs.Common.{◌≡◌, ◌++◌, take}
use Rattle.std.specs.List.{flat_map}
use Rattle.package_jobs.specs.Needed.{link_needs}
use Rattle.package_jobs.proofs.needs.add_links.Given as goal

abbrev pub invariant-loop-link : goal.invariant-loop-link
invariant-loop-link l = l.needs ≡ l.initial.needs ++ flat_map (link_needs l.links) (take l.link-index l.links)
