use Rattle.std.proofs.Common.{◌≡◌, map, take}
use Rattle.tree_clauses.proofs.rising.listed.Given as goal

abbrev pub invariant-loop-name : goal.invariant-loop-name
invariant-loop-name l = map (λ f. f.now) l.all.items ≡ take l.name-index l.names
