use Rattle.std.proofs.Common.{All, take}
use Rattle.package_jobs.specs.FileActs.{StandsSomewhere}
use Rattle.package_jobs.proofs.followed.links_are_named.Given as goal

abbrev pub invariant-loop-link : goal.invariant-loop-link
invariant-loop-link l = All StandsSomewhere (take l.link-index l.links)
