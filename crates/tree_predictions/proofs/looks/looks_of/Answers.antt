use Rattle.std.proofs.Common.{subst, sym, ap, ◌∙◌}
use Rattle.std.proofs.lemmas.Result.{IfOk-weaker}
use Rattle.tree_predictions.specs.Looks.{looks_in, AreNecessary}
use Rattle.tree_predictions.proofs.Held.{all_hold}
use Rattle.tree_predictions.proofs.looks.looks_of.Goals as goal

pub returns : goal.returns
returns c =
    IfOk-weaker c.looks_in.result _ (AreNecessary c.args.clause.now)
    (λ looks is. subst (AreNecessary c.args.clause.now) (sym (is ∙ ap looks_in c.in_ok-facts.ensures))
    (λ tree covers. all_hold tree _ (c.facts_hold.ensures c.args.clause.now tree covers)))
    c.looks_in.ensures
