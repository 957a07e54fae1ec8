use Rattle.std.proofs.Common.{◌≡◌, map, take}
use Rattle.prediction_text.specs.PredictionText.{trees_of}
use Rattle.prediction_text.proofs.predicted.tree_values.Given as goal

abbrev pub invariant-loop-named : goal.invariant-loop-named
invariant-loop-named l = map (λ value. value.now) l.values.items ≡ trees_of (take l.named-index l.trees)
