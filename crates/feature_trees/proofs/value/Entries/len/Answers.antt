use Rattle.feature_trees.proofs.Found.{entries_length}
use Rattle.feature_trees.proofs.value.Entries.len.Goals as goal

pub returns : goal.returns
returns c = entries_length c.as_slice-items.result.now c.self.inside.items.items c.args.self.now c.as_slice-items.ensures.value c.self.view_is
