use Rattle.clause_solver.proofs.DraftSteps.{without_says}
use Rattle.clause_solver.proofs.drafts.Draft.empty.Goals as goal

pub returns : goal.returns
returns c = without_says c.args.self.now c.args.x c.place-n.result c.requires.steady c.place-n.ensures c.in_ok-new.new c.in_ok-new.ensures.decided c.in_ok-new.ensures.within
