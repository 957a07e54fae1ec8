use Rattle.feature_trees.proofs.Found.{there-remove, seen-remove, seen-gap}
use Rattle.feature_trees.proofs.value.take_away.Goals as goal

pub returns-in-Ok-clause-there : goal.returns-in-Ok-clause-there
returns-in-Ok-clause-there c = rw c.remove-gone.ensures.items (there-remove c.args.items.now.items c.in-Ok.at c.requires.all)

pub returns-in-Ok-clause-gone : goal.returns-in-Ok-clause-gone
returns-in-Ok-clause-gone c =
    rw c.remove-gone.ensures.items (seen-remove c.args.items.now.items c.args.f.now c.in-Ok.at (rw c.as_slice.ensures.value at c.in-Ok.ensures))

pub returns-in-Err-clause-gone : goal.returns-in-Err-clause-gone
returns-in-Err-clause-gone c = seen-gap c.args.items.now.items c.args.f.now c.in-Err.field-0 (rw c.as_slice.ensures.value at c.in-Err.ensures)
