use Rattle.std.proofs.Common.{◌+◌, ◌∷◌, [], ◌++◌, map, take, sym, subst, ap, ◌∙◌}
use Rattle.std.proofs.lemmas.List.{map_more}
use Rattle.std.proofs.lemmas.Slice.Zip.{all_zipped_more}
use Rattle.tree_predictions.specs.Picks.{IsPick, ArePicks}
use Rattle.tree_predictions.specs.Plans.{clauses_of}
use Rattle.tree_predictions.proofs.picks.picks_of.Goals as goal

pub loop-tree-preserved : goal.loop-tree-preserved
loop-tree-preserved c =
    let i = c.loop-tree.tree-index in
    let trees = c.args.trees.now in
    let clauses = clauses_of c.args.plan.now in
    let item = c.tree-item.result in
    let more = all_zipped_more (IsPick clauses) (map (λ tree. tree.now) (take i trees)) c.loop-tree.picks item.now c.in_ok-pick.pick c.loop-tree.invariant c.in_ok-pick.ensures in
    let taken = ap (λ tree. map (λ tree. tree.now) (take i trees) ++ tree.now ∷ []) c.tree-item.is ∙ sym (map_more (λ tree. tree.now) trees i item c.loop-tree-test.true) in
    subst (ArePicks clauses (map (λ tree. tree.now) (take (i + 1) trees))) (sym c.in_ok-add.ensures.ok)
    (subst (λ ts. ArePicks clauses ts (c.loop-tree.picks ++ c.in_ok-pick.pick ∷ [])) taken more)
