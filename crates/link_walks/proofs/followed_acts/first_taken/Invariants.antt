use Rattle.std.proofs.Common.{◌≡◌, drop}
use Rattle.std.specs.List.{find}
use Rattle.link_walks.specs.Following.{takes_end}
use Rattle.link_walks.proofs.followed_acts.first_taken.Given as goal

abbrev pub invariant-loop-link : goal.invariant-loop-link
invariant-loop-link l = find (takes_end l.links l.a) (drop l.link-index l.links) ≡ find (takes_end l.links l.a) l.links
