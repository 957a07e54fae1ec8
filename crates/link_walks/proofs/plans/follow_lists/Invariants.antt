use Rattle.std.proofs.Common.{◌≡◌, ◌++◌, map}
use Rattle.link_walks.specs.Following.{follow_act}
use Rattle.link_walks.proofs.plans.follow_lists.Given as goal

abbrev pub invariant-loop-acts : goal.invariant-loop-acts
invariant-loop-acts l =
    map (map (follow_act l.links)) l.fn.lists
    ≡ l.there ++ map (map (follow_act l.links)) l.acts-iterator.rest.items
