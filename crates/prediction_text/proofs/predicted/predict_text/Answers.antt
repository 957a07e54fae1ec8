use Rattle.std.proofs.Common.{All, subst, sym}
use Rattle.prediction_text.specs.PredictionText.{AreSolved}
use Rattle.prediction_text.proofs.predicted.predict_text.Goals as goal

pub put_parts-requires-after_bounds : goal.put_parts-requires-after_bounds
put_parts-requires-after_bounds g c κs within = subst (All AreSolved) (sym c.as_slice.ensures) c.requires
