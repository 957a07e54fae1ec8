use Rattle.feature_trees.proofs.Found.{stops}
use Rattle.feature_trees.proofs.value.value_at.Goals as goal

-- nothing stands below
pub returns-in-None : goal.returns-in-None
returns-in-None c = stops c.loop-f.here.now c.args.names.now c.loop-f.f-index c.f-item.result _ c.loop-f-test.true c.f-item.is c.in-None.ensures c.loop-f.invariant
