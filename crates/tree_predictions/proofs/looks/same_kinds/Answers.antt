use Rattle.std.proofs.Common.{◌∙◌, sym}
use Rattle.tree_clauses.proofs.SameKinds.{same_kinds}
use Rattle.tree_predictions.proofs.looks.same_kinds.Goals as goal

pub returns : goal.returns
returns c t = same_kinds c.args.a c.args.b (sym c.eq.ensures ∙ t)
