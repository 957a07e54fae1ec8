use Rattle.feature_trees.proofs.Drafted.{got}
use Rattle.feature_trees.proofs.draft.Drafts.get.Goals as goal

pub returns : goal.returns
returns c = got c.self.inside.items.entries c.as_slice.result.now c.args.f.now c.args.self.now _ c.self.invariant c.self.view_is c.as_slice.ensures.bytes c.get.ensures.value
