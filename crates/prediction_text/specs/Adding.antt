-- A text behind which the lines of parts are added.
use Rattle.std.specs.Prelude.{◌≡◌, ℕ, List, ◌++◌}
use Rattle.tree_predictions.specs.declared.named_tree.NamedTree.{NamedTree}
use Rattle.outcome_report.specs.declared.outcome_report.ReportPart.{ReportPart}
use Rattle.prediction_text.specs.PredictionText.{TellsPart, TellsParts}

-- lines of the part stand behind the text now
pub record AddsPart (trees : List NamedTree) (part : ReportPart) (old new : List ℕ) : Type 0 where
  pub lines : List ℕ
  pub tells : TellsPart trees part lines
  pub adds : new ≡ old ++ lines

-- lines of the parts stand behind the text now
pub record AddsParts (trees : List NamedTree) (parts : List ReportPart) (old new : List ℕ) : Type 0 where
  pub lines : List ℕ
  pub tells : TellsParts trees parts lines
  pub adds : new ≡ old ++ lines
