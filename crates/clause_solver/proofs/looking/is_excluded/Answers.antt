use Rattle.std.proofs.Common.{refl}
use Rattle.clause_solver.proofs.Drafted.{first_and_rest}
use Rattle.clause_solver.proofs.Looked.{looks_on, looks_dead}
use Rattle.clause_solver.proofs.looking.is_excluded.Goals as goal

pub returns-in-Excluded : goal.returns-in-Excluded
returns-in-Excluded c is =
    let e = first_and_rest c.loop-left.left.now _ c.literal-item.result refl c.in-len1-up.len_at_least c.literal-item.is in
    looks_dead c.args.store.now c.args.given.now c.args.case.now c.loop-left.x.0 c.loop-left.n.0 c.literal-item.result c.loop-left.left.now _ e c.loop-left.invariant c.in-Excluded.ensures

pub loop-left-preserved : goal.loop-left-preserved
loop-left-preserved c =
    let e = first_and_rest c.loop-left.left.now _ c.literal-item.result refl c.in-len1-up.len_at_least c.literal-item.is in
    looks_on c.args.store.now c.args.given.now c.args.case.now c.loop-left.x.0 c.loop-left.n.0 c.in-At.y c.in-At.m c.literal-item.result c.loop-left.left.now _ e c.loop-left.invariant c.in-At.ensures
