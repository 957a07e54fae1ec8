use Rattle.clause_solver.proofs.DraftSteps.{narrowed_says}
use Rattle.clause_solver.proofs.drafts.Draft.narrow.Goals as goal

pub returns : goal.returns
returns c = narrowed_says c.args.self.now c.args.x c.place-n.result c.requires.steady c.place-n.ensures c.args.k c.narrow.new.self c.in_ok-narrow.ensures.narrowed c.in_ok-narrow.ensures.decided
