use Rattle.std.proofs.Common.{map, All, IsTrue, subst, ap, ◌∙◌}
use Rattle.std.specs.Prelude.{◌↔◌, is_none}
use Rattle.tree_clauses.specs.Solved.{IsSolved}
use Rattle.prediction_text.specs.PredictionText.{entry_clauses}
use Rattle.prediction_text.proofs.Solved.{said_none, solved_if}
use Rattle.prediction_text.proofs.predicted.is_solved_part.Goals as goal

pub returns : goal.returns
returns c =
    subst (λ none. IsTrue none ↔ All IsSolved (entry_clauses c.args.part.now.entries)) (said_none _ c.is_none.result c.is_none.ensures)
    (subst (λ clauses. IsTrue (is_none c.in_ok-unsolved.unsolved) ↔ All IsSolved clauses)
    (ap (map (λ clause. clause.now)) c.as_slice-2.ensures.value ∙ c.in_ok-clauses.ensures ∙ ap entry_clauses c.as_slice.ensures)
    (solved_if (map (λ clause. clause.now) c.as_slice-2.result.now) c.in_ok-unsolved.unsolved c.in_ok-unsolved.ensures))
