use Rattle.std.proofs.Common.{◌∙◌, sym}
use Rattle.tree_clauses.proofs.SameKinds.{same_kinds}
use Rattle.clause_solver.proofs.facts.are_same.Goals as goal

pub returns : goal.returns
returns c t = same_kinds c.args.a c.args.b (sym c.eq.ensures ∙ t)
