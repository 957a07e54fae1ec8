use Rattle.std.proofs.Common.{◌≡◌, drop}
use Rattle.std.specs.List.{list_any}
use Rattle.link_walks.specs.Following.{is_same}
use Rattle.link_walks.proofs.plans.some_same.Given as goal

abbrev pub invariant-loop-a : goal.invariant-loop-a
invariant-loop-a l = list_any (is_same l.links) (drop l.a-index l.acts) ≡ list_any (is_same l.links) l.acts
