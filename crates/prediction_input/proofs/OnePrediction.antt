-- Each file of a prediction comes to one value or one refusal.
use Rattle.std.proofs.Common.{◌≡◌, ◌⊎◌, ℕ, List, Option, Some, None, Result, Ok, Err, inl, inr, sym, ap, subst, ◌∙◌}
use Rattle.std.specs.Prelude.{All}
use Rattle.serde_json.specs.Data.{Data}
use Rattle.serde_json.specs.Read.{read}
use Rattle.checker_io.specs.Reading.{IsSingle}
use Rattle.checker_io.proofs.Readings.{single_next}
use Rattle.checker_input.specs.declared.faults.FileFault.{FileFault}
use Rattle.checker_input.specs.declared.faults.FileFault.TheVariants as fault
use Rattle.checker_input.proofs.OneAnswer.{Once, file_single}
use Rattle.outcome_report.specs.declared.outcome_report.Report.{Report}
use Rattle.report_reader.specs.declared.read.JsonFault.TheVariants.{Json, Shape}
use Rattle.report_reader.specs.JsonAnswers.{HasValue, IsReadable, ReadsReport, Reads}
use Rattle.report_reader.specs.ReportRead.{report_in as report_of}
use Rattle.report_reader.proofs.FoundFacts.{one_value}
use Rattle.report_reader.proofs.ReportLaws.{report_back, by_version}
use Rattle.tree_predictions.specs.declared.fault.TreesFault.{TreesFault}
use Rattle.tree_predictions.specs.declared.fault.TreesFault.TheVariants as trees
use Rattle.tree_predictions.specs.declared.named_tree.NamedTree.{NamedTree}
use Rattle.tree_predictions.specs.NamedTrees.{trees_of}
use Rattle.prediction_text.specs.PredictionText.{AreSolved}
use Rattle.prediction_input.specs.declared.read.TheConstants.{MOST_BYTES}
use Rattle.prediction_input.specs.PredictionInput.{HasUnsolved, ReportReads, ReportComes, TreesRead, TreesCome, report_in, trees_in, predict_in}
use Rattle.prediction_input.specs.Laws.{OnePrediction}
use Rattle.prediction_input.proofs.Plans.{after_report, after_trees}

-- ---- the report of a text

-- a value is one report's
told : (a b : Report) (d : Data) → IsReadable a → IsReadable b → HasValue a d → HasValue b d → a ≡ b
told a b d h g x y =
    by_version a d x (λ v s e. by_version b d y (λ w t f.
    one_value (report_of d) a b (ap report_of (sym e) ∙ report_back v a h s) (ap report_of (sym f) ∙ report_back w b g t)))

module _ (text : List ℕ) where
  -- a text has one value
  same_data : (a b : Data) → Reads text a → Reads text b → a ≡ b
  same_data a b x y = one_value (read text) a b x.1 y.1

  one_report : (a b : Report) → ReadsReport text (Ok a) → ReadsReport text (Ok b) → a ≡ b
  one_report a b x y =
      let same = same_data x.0 y.0 x.1 y.1 in
      told a b y.0 x.2.0 y.2.0 (subst (HasValue a) same x.2.1) y.2.1

  report_or_no_json : (a : Report) → ReadsReport text (Ok a) → ReadsReport text (Err Json) → ⊥
  report_or_no_json a x none = none x.0 x.1

  report_or_shape : (a : Report) → ReadsReport text (Ok a) → ReadsReport text (Err Shape) → ⊥
  report_or_shape a x y =
      let same = same_data x.0 y.0 x.1 y.1 in
      y.2 a x.2.0 (subst (HasValue a) same x.2.1)

  json_or_shape : ReadsReport text (Err Json) → ReadsReport text (Err Shape) → ⊥
  json_or_shape none y = none y.0 y.1

  -- a report whose clauses are in solved order, and one of which some clause is not
  solved_or_not : (a : Report) → ReadsReport text (Ok a) → All AreSolved a.parts → HasUnsolved text → ⊥
  solved_or_not a x solved y =
      y.2 (subst (λ (r : Report). All AreSolved r.parts) (one_report a y.0 x y.1) solved)

  abbrev Unread : FileFault → Type 0
  Unread wrong = ReportReads text (Err wrong)

  read_or_unread : (a : Report) (wrong : FileFault) → ReportReads text (Ok a) → Unread wrong → ⊥
  read_or_unread a wrong x (inl y) = report_or_no_json a x.0 y.1
  read_or_unread a wrong x (inr (inl y)) = report_or_shape a x.0 y.1
  read_or_unread a wrong x (inr (inr y)) = solved_or_not a x.0 x.1 y.1

  unread_once : (one other : FileFault) → Unread one → Unread other → one ≡ other
  unread_once one other (inl x) (inl y) = x.0 ∙ sym y.0
  unread_once one other (inl x) (inr (inl y)) = absurd (json_or_shape x.1 y.1)
  unread_once one other (inl x) (inr (inr y)) = absurd (report_or_no_json y.1.0 y.1.1 x.1)
  unread_once one other (inr (inl x)) (inl y) = absurd (json_or_shape y.1 x.1)
  unread_once one other (inr (inl x)) (inr (inl y)) = x.0 ∙ sym y.0
  unread_once one other (inr (inl x)) (inr (inr y)) = absurd (report_or_shape y.1.0 y.1.1 x.1)
  unread_once one other (inr (inr x)) (inl y) = absurd (report_or_no_json x.1.0 x.1.1 y.1)
  unread_once one other (inr (inr x)) (inr (inl y)) = absurd (report_or_shape x.1.0 x.1.1 y.1)
  unread_once one other (inr (inr x)) (inr (inr y)) = x.0 ∙ sym y.0

  reads_once : (r s : Result Report FileFault) → ReportReads text r → ReportReads text s → r ≡ s
  reads_once (Ok a) (Ok b) x y = ap Ok (one_report a b x.0 y.0)
  reads_once (Ok a) (Err wrong) x y = absurd (read_or_unread a wrong x y)
  reads_once (Err wrong) (Ok b) x y = absurd (read_or_unread b wrong y x)
  reads_once (Err wrong) (Err other) x y = ap Err (unread_once wrong other x y)

-- ---- what each file comes to

report_once : Once ReportComes
report_once None r s x y = x ∙ sym y
report_once (Some text) r s x y = reads_once text r s x y

trees_read_once : (wanted : Result (List NamedTree) TreesFault) (r s : Result (List NamedTree) FileFault) → TreesRead wanted r
    → TreesRead wanted s → r ≡ s
trees_read_once (Ok value) r s x y = x ∙ sym y
trees_read_once (Err (trees.Line line why)) r s x y = x ∙ sym y
trees_read_once (Err trees.Memory) r s x y = absurd x

trees_once : Once TreesCome
trees_once None r s x y = x ∙ sym y
trees_once (Some text) r s x y = trees_read_once (trees_of text) r s x y

report_single : (name : List ℕ) → IsSingle (report_in name)
unfolding report_in
report_single name = file_single MOST_BYTES name ReportComes report_once

trees_single : (name : List ℕ) → IsSingle (trees_in name)
unfolding trees_in
trees_single name = file_single MOST_BYTES name TreesCome trees_once

pub one_prediction : OnePrediction
unfolding predict_in
one_prediction report named =
    single_next (report_in report) (after_report named) (report_single report) (λ told.
    single_next (trees_in named) (after_trees told) (trees_single named) (λ value. tt))
