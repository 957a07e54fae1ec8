use Rattle.clause_solver.proofs.DraftSteps.{filled_says}
use Rattle.clause_solver.proofs.drafts.Draft.fill.Goals as goal

pub returns : goal.returns
returns c = filled_says c.args.self.now c.args.x c.place-n.result c.requires.steady c.place-n.ensures c.fill.new.self c.in_ok-fill.ensures.filled c.in_ok-fill.ensures.decided
