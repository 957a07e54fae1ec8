use Rattle.std.proofs.Common.{map, subst, sym, length}
use Rattle.std.proofs.lemmas.Result.{IfOk-weaker}
use Rattle.case_pool.proofs.Promise.{promised}
use Rattle.tree_predictions.specs.Chunks.{part, IsWithin}
use Rattle.tree_predictions.specs.Picks.{IsPick, ArePicks}
use Rattle.tree_predictions.specs.Plans.{clauses_of}
use Rattle.tree_predictions.proofs.Chunked.{all_within, whole}
use Rattle.tree_predictions.proofs.predictions.picked.Goals as goal

pub map_jobs-requires-after_bounds : goal.map_jobs-requires-after_bounds
map_jobs-requires-after_bounds g c κs within = λ i p lt is. (
  c.requires.solved,
  (c.requires.planned, subst (IsWithin (length c.args.trees.now)) (sym is) (all_within c.in_ok-chunks.chunks 0 (length c.args.trees.now) c.in_ok-chunks.ensures i p.now lt)),
)

pub returns : goal.returns
returns g c =
    let clauses = clauses_of c.args.plan.now in
    let trees = map (λ tree. tree.now) c.args.trees.now in
    let zipped = promised _ _ (λ chunk answer. ArePicks clauses (map (λ tree. tree.now) (part c.args.trees.now chunk)) answer)
    (λ chunk answer ensures. ensures) c.in_ok-chunks.chunks c.in_ok-answers.answers c.in_ok-answers.ensures in
    IfOk-weaker c.joined.result _ (ArePicks clauses trees)
    (λ all is. subst (ArePicks clauses trees) (sym is)
    (whole (IsPick clauses) (λ tree. tree.now) c.in_ok-chunks.chunks c.args.trees.now c.in_ok-answers.answers 0 c.in_ok-chunks.ensures zipped))
    c.joined.ensures
