-- The reading of a prediction, step by step.
use Rattle.std.proofs.Common.{ℕ, List, Ok}
use Rattle.checker_io.specs.Reading.{done, and_then}
use Rattle.checker_input.specs.Input.{Input}
use Rattle.outcome_report.specs.declared.outcome_report.Report.{Report}
use Rattle.tree_predictions.specs.declared.named_tree.NamedTree.{NamedTree}
use Rattle.prediction_input.specs.declared.prediction.Prediction.{Prediction}
use Rattle.prediction_input.specs.PredictionInput.{trees_in}

abbrev pub after_trees : Report → List NamedTree → Input Prediction
after_trees told named = done (Ok (record { report = told; trees = named }))

abbrev pub after_report : List ℕ → Report → Input Prediction
after_report trees told = and_then (trees_in trees) (after_trees told)
