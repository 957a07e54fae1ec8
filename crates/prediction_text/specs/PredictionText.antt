-- The text of what outcomes many trees have.
use Rattle.std.specs.Prelude.{◌≡◌, ℕ, ◌-◌, List, [], ◌∷◌, ◌++◌, All, codes, map, Option, Some, None, slice_get}
use Rattle.std.specs.Fmt.{decimal}
use Rattle.shown_texts.specs.Lines.{line}
use Rattle.shown_texts.specs.Show.{show}
use Rattle.feature_trees.specs.declared.value.Value.{Value}
use Rattle.tree_clauses.specs.declared.clause.Clause.{Clause}
use Rattle.tree_clauses.specs.Solved.{IsSolved}
use Rattle.tree_predictions.specs.declared.named_tree.NamedTree.{NamedTree}
use Rattle.tree_predictions.specs.Picks.{ArePicks}
use Rattle.dpkg_scenarios.specs.declared.scenario.Scenario.{Scenario}
use Rattle.dpkg_scenarios.specs.Names.{scenario_name}
use Rattle.outcome_report.specs.declared.outcome_report.ReportEntry.{ReportEntry}
use Rattle.outcome_report.specs.declared.outcome_report.ReportPart.{ReportPart}
use Rattle.outcome_report.specs.declared.outcome_report.Report.{Report}
use Rattle.report_text.specs.ReportText.{result_text}

-- the clauses of entries, in their order
abbrev pub entry_clauses : List ReportEntry → List Clause
entry_clauses entries = map (λ (entry : ReportEntry). entry.outcome.clause) entries

-- the clauses of a part
abbrev pub clauses_of : ReportPart → List Clause
clauses_of part = entry_clauses part.entries

-- the trees of named ones
abbrev pub trees_of : List NamedTree → List Value
trees_of trees = map (λ (named : NamedTree). named.tree) trees

-- each clause of the part is in solved order
abbrev pub AreSolved : ReportPart → Type 0
AreSolved part = All IsSolved (clauses_of part)

-- how the outcome ends that a number names, which is counted from 1
abbrev pub ending_text : Option ReportEntry → List ℕ
ending_text None = []
ending_text (Some entry) = result_text entry.outcome.ending

-- what is said of a pick: which outcome it is and how it ends, or that there is none
abbrev pub picked_text : List ReportEntry → Option ℕ → List ℕ
picked_text entries None = codes " none"
picked_text entries (Some number) =
    codes " outcome " ++ decimal number ++ codes " " ++ ending_text (slice_get entries (number - 1))

-- the line of a tree
unfoldable pub tree_line : List ReportEntry → List ℕ → Option ℕ → List ℕ
tree_line entries name pick = line (show name ++ picked_text entries pick)

-- the lines of trees with these picks
abbrev pub tree_lines : List ReportEntry → List NamedTree → List (Option ℕ) → List ℕ
tree_lines entries [] picks = []
tree_lines entries (named ∷ trees) [] = []
tree_lines entries (named ∷ trees) (pick ∷ picks) =
    tree_line entries named.name pick ++ tree_lines entries trees picks

-- the line of a scenario
unfoldable pub scenario_heading : Scenario → List ℕ
scenario_heading scenario = line (codes "scenario " ++ scenario_name scenario)

-- these are the lines of a part: its scenario's, and one for each tree, with the pick of the part's clauses for it
pub record TellsPart (trees : List NamedTree) (part : ReportPart) (text : List ℕ) : Type 0 where
  pub picks : List (Option ℕ)
  pub are : ArePicks (clauses_of part) (trees_of trees) picks
  pub lines : text ≡ scenario_heading part.scenario ++ tree_lines part.entries trees picks

-- these are the lines of parts, one after another
abbrev pub TellsParts : List NamedTree → List ReportPart → List ℕ → Type 0
TellsParts trees [] text = text ≡ []
TellsParts trees (part ∷ parts) text =
    (lines : List ℕ) × (rest : List ℕ) × TellsPart trees part lines × TellsParts trees parts rest
    × (text ≡ lines ++ rest)

-- the text on trees by a report
pub record IsPrediction (report : Report) (trees : List NamedTree) (text : List ℕ) : Type 0 where
  pub lines : List ℕ
  pub parts : TellsParts trees report.parts lines
  pub whole : text ≡ line (codes "colis predict 1") ++ lines
