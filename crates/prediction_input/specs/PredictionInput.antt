-- What a prediction reads: a report, and then trees; and what comes of each.
use Rattle.std.specs.Prelude.{◌≡◌, ◌⊎◌, ℕ, All, List, Option, Some, None, Result, Ok, Err}
use Rattle.checker_io.specs.Reading.{Comes, done, and_then}
use Rattle.checker_input.specs.declared.faults.FileFault.{FileFault}
use Rattle.checker_input.specs.declared.faults.FileFault.TheVariants as fault
use Rattle.checker_input.specs.Input.{Input, file_within}
use Rattle.outcome_report.specs.declared.outcome_report.Report.{Report}
use Rattle.report_reader.specs.declared.read.JsonFault.TheVariants.{Json, Shape}
use Rattle.report_reader.specs.JsonAnswers.{ReadsReport}
use Rattle.tree_predictions.specs.declared.fault.TreesFault.{TreesFault}
use Rattle.tree_predictions.specs.declared.fault.TreesFault.TheVariants as trees
use Rattle.tree_predictions.specs.declared.named_tree.NamedTree.{NamedTree}
use Rattle.tree_predictions.specs.NamedTrees.{trees_of}
use Rattle.prediction_text.specs.PredictionText.{AreSolved}
use Rattle.prediction_input.specs.declared.prediction.Prediction.{Prediction}
use Rattle.prediction_input.specs.declared.read.TheConstants.{MOST_BYTES}

-- the text tells a report that has a clause which is not in solved order
abbrev pub HasUnsolved : List ℕ → Type 0
HasUnsolved text = (report : Report) × ReadsReport text (Ok report) × ¬ (All AreSolved report.parts)

-- The text of a report: one whose clauses are all in solved order, or why it is none: 1, it is no JSON text; 2, it is
-- one whose value is no report's; 3, it is a report's, with a clause that is not in solved order.
abbrev pub ReportReads : List ℕ → Result Report FileFault → Type 0
ReportReads text (Ok report) = ReadsReport text (Ok report) × All AreSolved report.parts
ReportReads text (Err wrong) =
    ((wrong ≡ fault.Report 1) × ReadsReport text (Err Json))
    ⊎ (((wrong ≡ fault.Report 2) × ReadsReport text (Err Shape)) ⊎ ((wrong ≡ fault.Report 3) × HasUnsolved text))

-- the report, which has to be there
abbrev pub ReportComes : Comes Report FileFault
ReportComes None came = came ≡ Err fault.Missing
ReportComes (Some text) came = ReportReads text came

-- the text of many trees
abbrev pub TreesRead : Result (List NamedTree) TreesFault → Result (List NamedTree) FileFault → Type 0
TreesRead (Ok value) came = came ≡ Ok value
TreesRead (Err (trees.Line line why)) came = came ≡ Err (fault.Line line why)
TreesRead (Err trees.Memory) came = ⊥

-- the trees, whose file has to be there
abbrev pub TreesCome : Comes (List NamedTree) FileFault
TreesCome None came = came ≡ Err fault.Missing
TreesCome (Some text) came = TreesRead (trees_of text) came

-- the report in a file of at most 67,108,864 bytes
unfoldable pub report_in : List ℕ → Input Report
report_in name = file_within MOST_BYTES name ReportComes

-- the trees in a file of at most 67,108,864 bytes
unfoldable pub trees_in : List ℕ → Input (List NamedTree)
trees_in name = file_within MOST_BYTES name TreesCome

-- the report, and behind it the trees
unfoldable pub predict_in : List ℕ → List ℕ → Input Prediction
predict_in report trees =
    and_then (report_in report) (λ told. and_then (trees_in trees) (λ named.
    done (Ok (record { report = told; trees = named }))))
