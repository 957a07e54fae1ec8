use Rattle.std.proofs.Common.{map, All, subst, sym, ap, ◌∙◌}
use Rattle.std.proofs.lemmas.Result.{IfOk-weaker}
use Rattle.tree_clauses.specs.Solved.{IsSolved}
use Rattle.tree_predictions.specs.Picks.{ArePicks}
use Rattle.tree_predictions.specs.Plans.{clauses_of}
use Rattle.tree_predictions.proofs.predictions.pick_each.Goals as goal

pub picked-requires-clause-solved : goal.picked-requires-clause-solved
picked-requires-clause-solved g c κs within = subst (All IsSolved) (sym (ap clauses_of c.as_slice.ensures ∙ c.in_ok-plan.ensures.clauses)) c.requires

pub returns : goal.returns
returns g c =
    let trees = map (λ tree. tree.now) c.args.trees.now in
    IfOk-weaker c.picked.result _ (ArePicks (map (λ clause. clause.now) c.args.clauses.now) trees)
    (λ picks are. subst (λ clauses. ArePicks clauses trees picks) (ap clauses_of c.as_slice.ensures ∙ c.in_ok-plan.ensures.clauses) are) c.picked.ensures
