use Rattle.std.proofs.Common.{◌≡◌, ◌++◌, map}
use Rattle.link_walks.specs.Following.{follow_act}
use Rattle.link_walks.proofs.plans.follow_acts.Given as goal

abbrev pub invariant-loop-a : goal.invariant-loop-a
invariant-loop-a l =
    map (follow_act l.links) l.fn.acts ≡ l.there ++ map (follow_act l.links) l.a-iterator.rest.items
