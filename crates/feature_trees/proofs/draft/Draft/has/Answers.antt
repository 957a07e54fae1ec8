use Rattle.feature_trees.specs.Drafts.{draft_value}
use Rattle.feature_trees.proofs.Drafted.{none_so}
use Rattle.feature_trees.proofs.Found.{stops}
use Rattle.feature_trees.proofs.draft.Draft.has.Goals as goal

-- nothing stands below
pub returns-in-None : goal.returns-in-None
returns-in-None c =
    none_so _ (stops (draft_value c.loop-f.here.now) c.args.names.now c.loop-f.f-index c.f-item.result _ c.loop-f-test.true c.f-item.is c.in-None.ensures c.loop-f.invariant)
