use Rattle.std.proofs.Common.{refl, sym}
use Rattle.feature_trees.proofs.Found.{present_at, find_gap}
use Rattle.feature_trees.proofs.value.value_under.Goals as goal

pub returns-in-Ok : goal.returns-in-Ok
returns-in-Ok c = sym (present_at c.args.items.now c.args.f.now c.in-Ok.at c.index-items-at.result c.requires.all c.in-Ok.ensures)

pub returns-in-Err : goal.returns-in-Err
returns-in-Err c = rw (find_gap c.args.items.now c.args.f.now c.in-Err.field-0 c.in-Err.ensures) refl
