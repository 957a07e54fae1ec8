use Rattle.std.proofs.Common.{map, take}
use Rattle.tree_predictions.specs.Picks.{ArePicks}
use Rattle.tree_predictions.specs.Plans.{clauses_of}
use Rattle.tree_predictions.proofs.picks.picks_of.Given as goal

abbrev pub invariant-loop-tree : goal.invariant-loop-tree
invariant-loop-tree l =
    ArePicks (clauses_of l.plan) (map (λ tree. tree.now) (take l.tree-index l.trees)) l.picks
