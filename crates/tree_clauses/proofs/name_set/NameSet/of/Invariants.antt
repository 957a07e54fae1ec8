use Rattle.std.proofs.Common.{◌≡◌, ℕ, List, take}
use Rattle.tree_clauses.specs.NameSets.{has, is_among}
use Rattle.tree_clauses.proofs.name_set.NameSet.of.Given as goal

abbrev pub invariant-loop-f : goal.invariant-loop-f
invariant-loop-f l = (g : List ℕ) → has l.set g ≡ is_among (take l.f-index l.names) g
