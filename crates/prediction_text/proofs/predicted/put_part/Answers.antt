use Rattle.std.proofs.Common.{All, length, subst, sym, ap, ◌∙◌}
use Rattle.std.proofs.lemmas.List.{length-map}
use Rattle.std.proofs.lemmas.Slice.Zip.{AllZip-long}
use Rattle.tree_clauses.specs.Solved.{IsSolved}
use Rattle.tree_predictions.specs.declared.named_tree.NamedTree.{NamedTree}
use Rattle.tree_predictions.specs.Picks.{IsPick}
use Rattle.prediction_text.specs.PredictionText.{entry_clauses, trees_of}
use Rattle.prediction_text.proofs.predicted.put_part.Goals as goal

pub picks_of-requires-after_bounds : goal.picks_of-requires-after_bounds
picks_of-requires-after_bounds g c κs within = subst (λ entries. All IsSolved (entry_clauses entries)) (sym c.as_slice.ensures) c.requires

pub put_trees-requires : goal.put_trees-requires
put_trees-requires g c =
    ap length c.as_slice-2.ensures
    ∙ AllZip-long (IsPick (entry_clauses c.as_slice.result.now)) (trees_of c.args.trees.now) c.in_ok-picks.picks c.in_ok-picks.ensures
    ∙ length-map c.args.trees.now (λ (named : NamedTree). named.tree)
