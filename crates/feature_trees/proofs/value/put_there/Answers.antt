use Rattle.feature_trees.proofs.Found.{there-set, seen-write, there-insert, seen-insert}
use Rattle.feature_trees.proofs.value.put_there.Goals as goal

pub returns-in-Ok-clause-there : goal.returns-in-Ok-clause-there
returns-in-Ok-clause-there c = there-set c.args.items.now.items c.in-Ok.at _ c.requires.all c.requires.there

pub returns-in-Ok-clause-ok : goal.returns-in-Ok-clause-ok
returns-in-Ok-clause-ok c =
    seen-write c.args.items.now.items c.args.f.now c.in-Ok.at c.index_mut.result.now c.args.v c.requires.there
    (rw c.as_slice.ensures.value at c.in-Ok.ensures) c.index_mut.ensures.value

pub returns-in_ok-insert-in-Err-clause-there : goal.returns-in_ok-insert-in-Err-clause-there
returns-in_ok-insert-in-Err-clause-there c =
    rw c.in_ok-insert-in-Err.ensures.items (there-insert c.args.items.now.items c.in-Err.at _ c.requires.all c.requires.there)

pub returns-in_ok-insert-in-Err-clause-ok : goal.returns-in_ok-insert-in-Err-clause-ok
returns-in_ok-insert-in-Err-clause-ok c =
    rw (c.in_ok-insert-in-Err.ensures.items, c.in_ok-name-in-Err.ensures)
    (seen-insert c.args.items.now.items c.args.f.now c.in-Err.at c.args.v c.requires.there (rw c.as_slice.ensures.value at c.in-Err.ensures))
