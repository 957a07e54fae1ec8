-- Which reports are whole, and which ones the program's types represent.
use Rattle.std.specs.Prelude.{◌≡◌, ℕ, suc, ◌<◌, ◌≤◌, ◌^◌, true, IsTrue, List, [], ◌∷◌}
use Rattle.std.specs.List.{list_all}
use Rattle.shown_texts.specs.Marks.{is_mark}
use Rattle.feature_trees.specs.declared.kind.Kind.TheVariants.{Dir}
use Rattle.feature_trees.specs.declared.value.Value.{Value}
use Rattle.feature_trees.specs.Readable.{of_bytes}
use Rattle.feature_trees.specs.Sound.{sound}
use Rattle.feature_trees.specs.Tree.{kind_of}
use Rattle.tree_clauses.specs.ClauseRead.{is_clause}
use Rattle.dpkg_scenarios.specs.declared.scenario.Scenario.{Scenario}
use Rattle.dpkg_scenarios.specs.Scenarios.{columns_of}
use Rattle.outcome_report.specs.declared.outcome_report.ReportEntry.{ReportEntry}
use Rattle.outcome_report.specs.declared.outcome_report.ReportPart.{ReportPart}
use Rattle.outcome_report.specs.declared.outcome_report.Report.{Report}
use Rattle.outcome_report.specs.OutcomeReport.{Agrees}
use Rattle.report_text.specs.Numbered.{AllNumbered}
use Rattle.report_text.specs.PieceRead.{is_ending, is_call}

-- ---- what the types represent

-- a tree that its type represents: its names rise, and names and targets are of bytes
pub record IsRepresentableTree (tree : Value) : Type 0 where
  pub sound : IsTrue (sound tree)
  pub bytes : IsTrue (of_bytes tree)

-- an entry that its type represents: its numbers fit their types, and its names and words are of bytes
pub record IsRepresentableEntry (entry : ReportEntry) : Type 0 where
  pub number : entry.outcome.number < 2 ^ 32
  pub ending : IsTrue (is_ending entry.outcome.ending)
  pub trace : IsTrue (list_all is_mark entry.outcome.trace)
  pub clause : IsTrue (is_clause entry.outcome.clause)
  pub calls : IsTrue (list_all is_call entry.replayed.calls)
  pub shown : IsRepresentableTree entry.outcome.shown
  pub after : IsRepresentableTree entry.replayed.after

-- the program's types represent each of the entries
abbrev pub AllRepresentable : List ReportEntry → Type 0
AllRepresentable [] = Unit {0}
AllRepresentable (entry ∷ entries) = IsRepresentableEntry entry × AllRepresentable entries

-- the program's types represent the entries of each part
abbrev pub AllPartsRepresentable : List ReportPart → Type 0
AllPartsRepresentable [] = Unit {0}
AllPartsRepresentable (part ∷ parts) = AllRepresentable part.entries × AllPartsRepresentable parts

-- a report that the program's types represent
abbrev pub IsRepresentable : Report → Type 0
IsRepresentable report = AllPartsRepresentable report.parts

-- ---- whole reports

-- the entry's trees are directories, and its replay ends as the outcome says, as the entry says
pub record IsWholeEntry (entry : ReportEntry) : Type 0 where
  pub shown : kind_of entry.outcome.shown ≡ Dir
  pub after : kind_of entry.replayed.after ≡ Dir
  pub agrees : Agrees entry
  pub confirmed : entry.confirmed ≡ true

-- each entry is whole
abbrev pub AllWhole : List ReportEntry → Type 0
AllWhole [] = Unit {0}
AllWhole (entry ∷ entries) = IsWholeEntry entry × AllWhole entries

-- each part's entries are
abbrev pub AllPartsWhole : List ReportPart → Type 0
AllPartsWhole [] = Unit {0}
AllPartsWhole (part ∷ parts) = AllWhole part.entries × AllPartsWhole parts

-- the place of a scenario among all of them
abbrev pub scenario_place : Scenario → ℕ
scenario_place scenario = (columns_of scenario).place

-- the scenarios of the parts are different and in their order, from a place on
abbrev pub AreInOrder : ℕ → List ReportPart → Type 0
AreInOrder least [] = Unit {0}
AreInOrder least (part ∷ parts) =
    (least ≤ scenario_place part.scenario) × AreInOrder (suc (scenario_place part.scenario)) parts

-- a whole report: its entries are whole and numbered from 1 in each part, and its scenarios are different and in order
pub record IsWhole (report : Report) : Type 0 where
  pub entries : AllPartsWhole report.parts
  pub numbered : AllNumbered report.parts
  pub order : AreInOrder 0 report.parts
