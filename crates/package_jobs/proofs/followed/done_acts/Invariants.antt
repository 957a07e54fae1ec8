use Rattle.std.proofs.Common.{◌≡◌, map, take}
use Rattle.link_walks.specs.Following.{follow_act}
use Rattle.package_jobs.proofs.followed.done_acts.Given as goal

abbrev pub invariant-loop-act : goal.invariant-loop-act
invariant-loop-act l = l.acts ≡ map (follow_act l.links) (take l.act-index l.listed)
