use Rattle.feature_trees.proofs.Found.{stops}
use Rattle.tree_predictions.proofs.Held.{kind_none}
use Rattle.tree_predictions.proofs.looks.kind_at.Goals as goal

-- nothing stands below
pub returns-in-None : goal.returns-in-None
returns-in-None c =
    kind_none _ (stops c.loop-f.here.now c.args.names.now c.loop-f.f-index c.f-item.result _ c.loop-f-test.true c.f-item.is c.in-None.ensures c.loop-f.invariant)
