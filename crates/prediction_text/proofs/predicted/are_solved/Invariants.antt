use Rattle.std.specs.List.{AllWithin}
use Rattle.prediction_text.specs.PredictionText.{AreSolved}
use Rattle.prediction_text.proofs.predicted.are_solved.Given as goal

abbrev pub invariant-loop-part : goal.invariant-loop-part
invariant-loop-part l = AllWithin AreSolved l.parts 0 l.part-index
