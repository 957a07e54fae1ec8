use Rattle.std.proofs.Common.{All, IfOk, IsTrue, subst}
use Rattle.std.specs.Prelude.{◌↔◌}
use Rattle.prediction_text.specs.PredictionText.{AreSolved}
use Rattle.prediction_text.proofs.predicted.has_solved_clauses.Goals as goal

pub returns : goal.returns
returns c =
    subst (λ parts. IfOk c.are_solved.result (λ solved. IsTrue solved ↔ All AreSolved parts)) c.as_slice.ensures c.are_solved.ensures
