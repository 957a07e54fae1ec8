-- The laws that src/theorems.rt proves of what a prediction reads.
use Rattle.std.specs.Prelude.{ℕ, List}
use Rattle.checker_io.specs.Reading.{IsSingle}
use Rattle.prediction_input.specs.PredictionInput.{predict_in}

-- each of the two files comes to one value or one refusal, whatever it holds
abbrev pub OnePrediction : Type 0
OnePrediction = (report trees : List ℕ) → IsSingle (predict_in report trees)
