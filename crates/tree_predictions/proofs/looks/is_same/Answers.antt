use Rattle.std.proofs.Common.{sym, ◌∙◌}
use Rattle.tree_predictions.proofs.Held.{same_look}
use Rattle.tree_predictions.proofs.looks.is_same.Goals as goal

pub returns : goal.returns
returns c =
    λ same. same_look c.args.a.now c.args.b.now (sym c.as_slice.ensures ∙ c.are_same.ensures same ∙ c.as_slice-2.ensures) (c.same_kinds.ensures c.if-not-same_kinds.false)
