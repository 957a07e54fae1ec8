use Rattle.std.proofs.Common.{◌≡◌, map, take}
use Rattle.prediction_text.specs.PredictionText.{entry_clauses}
use Rattle.prediction_text.proofs.predicted.clauses_of.Given as goal

abbrev pub invariant-loop-entry : goal.invariant-loop-entry
invariant-loop-entry l = map (λ clause. clause.now) l.clauses.items ≡ entry_clauses (take l.entry-index l.entries)
