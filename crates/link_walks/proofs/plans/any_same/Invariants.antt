use Rattle.std.proofs.Common.{◌≡◌, drop}
use Rattle.std.specs.List.{list_any}
use Rattle.link_walks.specs.Following.{is_same}
use Rattle.link_walks.proofs.plans.any_same.Given as goal

abbrev pub invariant-loop-acts : goal.invariant-loop-acts
invariant-loop-acts l =
    list_any (list_any (is_same l.links)) (drop l.acts-index l.lists) ≡ list_any (list_any (is_same l.links)) l.lists
