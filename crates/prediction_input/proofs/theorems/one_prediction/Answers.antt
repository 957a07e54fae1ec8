use Rattle.prediction_input.proofs.OnePrediction.{one_prediction}
use Rattle.prediction_input.proofs.theorems.one_prediction.Goals as goal

pub returns : goal.returns
returns c = one_prediction
