use Rattle.std.proofs.Common.{map, All, subst, sym, ap, ◌∙◌}
use Rattle.tree_clauses.specs.Solved.{IsSolved}
use Rattle.prediction_text.proofs.predicted.picks_of.Goals as goal

pub pick_each-requires-after_bounds : goal.pick_each-requires-after_bounds
pick_each-requires-after_bounds g c κs within =
    subst (All IsSolved) (sym (ap (map (λ clause. clause.now)) c.as_slice.ensures.value ∙ c.in_ok-clauses.ensures)) c.requires
