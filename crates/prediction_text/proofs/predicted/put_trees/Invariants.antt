use Rattle.std.proofs.Common.{◌≡◌, ◌++◌, drop}
use Rattle.prediction_text.specs.PredictionText.{tree_lines}
use Rattle.prediction_text.proofs.predicted.put_trees.Given as goal

abbrev pub invariant-loop-at : goal.invariant-loop-at
invariant-loop-at l =
    l.text ++ tree_lines l.entries (drop l.at l.trees) (drop l.at l.picks) ≡ l.initial.text ++ tree_lines l.entries l.trees l.picks
