use Rattle.std.proofs.Common.{refl}
use Rattle.clause_solver.proofs.Drafted.{given_more}
use Rattle.clause_solver.proofs.drafts.Draft.of.Goals as goal

pub loop-i-preserved : goal.loop-i-preserved
loop-i-preserved c = given_more c.args.lists c.args.given.now c.loop-i.i _ c.loop-i.draft c.put.new.self c.loop-i.invariant c.in_ok-put.ensures refl
