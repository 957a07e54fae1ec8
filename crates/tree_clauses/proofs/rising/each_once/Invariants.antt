use Rattle.std.proofs.Common.{◌≡◌, ◌++◌, map, length}
use Rattle.tree_clauses.specs.MadeValues.{once}
use Rattle.tree_clauses.proofs.rising.each_once.Given as goal

abbrev pub invariant-loop-left : goal.invariant-loop-left
invariant-loop-left l = map (λ f. f.now) l.kept.items ++ once (map (λ f. f.now) l.left) ≡ once (map (λ f. f.now) l.names)

abbrev pub decreases-loop-left : goal.decreases-loop-left
decreases-loop-left l = length l.left
