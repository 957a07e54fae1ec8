-- Which texts tell a report, and what reading one answers.
use Rattle.std.specs.Prelude.{◌≡◌, ◌≤◌, ◌⊎◌, ℕ, List, [], ◌∷◌, Option, Some, None, Result, Ok, Err, IsTrue, IsUtf8}
use Rattle.serde_json.specs.Data.{Data}
use Rattle.serde_json.specs.Read.{read}
use Rattle.feature_trees.specs.declared.read.TheConstants.{MOST_NAMES}
use Rattle.feature_trees.specs.declared.version.Version.TheVariants.{First, Second}
use Rattle.feature_trees.specs.Readable.{depth}
use Rattle.dpkg_scenarios.specs.Scenarios.{is_checked}
use Rattle.outcome_report.specs.declared.outcome_report.Report.{Report}
use Rattle.outcome_report.specs.declared.outcome_report.ReportEntry.{ReportEntry}
use Rattle.outcome_report.specs.declared.outcome_report.ReportPart.{ReportPart}
use Rattle.report_text.specs.Whole.{IsRepresentable, IsWhole}
use Rattle.report_json.specs.FirstVersion.{is_first}
use Rattle.report_json.specs.ReportJson.{json_of}
use Rattle.report_reader.specs.declared.read.JsonFault.{JsonFault}
use Rattle.report_reader.specs.declared.read.JsonFault.TheVariants as fault

-- the bytes are a JSON text that serde_json reads, and this is its value
abbrev pub Reads : List ℕ → Data → Type 0
Reads text value = IsUtf8 text × (read text ≡ Some value)

-- no path of an entry's trees has more names than a line of a tree may have
pub record HasShortPaths (entry : ReportEntry) : Type 0 where
  pub shown : depth entry.outcome.shown ≤ MOST_NAMES
  pub after : depth entry.replayed.after ≤ MOST_NAMES

-- no path of the trees of these entries has more names than a line of a tree may have
abbrev pub AllShort : List ReportEntry → Type 0
AllShort [] = Unit {0}
AllShort (entry ∷ entries) = HasShortPaths entry × AllShort entries

-- no path of the trees of the entries of these parts has more names than a line of a tree may have
abbrev pub AllPartsShort : List ReportPart → Type 0
AllPartsShort [] = Unit {0}
AllPartsShort (part ∷ parts) = AllShort part.entries × AllPartsShort parts

-- each part is of a scenario that a check answers for
abbrev pub AllChecked : List ReportPart → Type 0
AllChecked [] = Unit {0}
AllChecked (part ∷ parts) = IsTrue (is_checked part.scenario) × AllChecked parts

-- a whole report of scenarios that a check answers for, that the program's types represent, whose trees have no longer
-- paths than can be read
pub record IsReadable (report : Report) : Type 0 where
  pub representable : IsRepresentable report
  pub whole : IsWhole report
  pub short : AllPartsShort report.parts
  pub checked : AllChecked report.parts

-- the value is the report's in the second version, or in the first, where the report has a text of that
abbrev pub HasValue : Report → Data → Type 0
HasValue report value = (json_of Second report ≡ value) ⊎ (IsTrue (is_first report) × (json_of First report ≡ value))

-- the value is that of no such report
abbrev pub IsNoReport : Data → Type 0
IsNoReport value = (report : Report) → IsReadable report → ¬ (HasValue report value)

-- the report that has the value, where there is one
abbrev pub Finds : Data → Option Report → Type 0
Finds value (Some report) = IsReadable report × HasValue report value
Finds value None = IsNoReport value

-- What reading a text answers: the report whose value the text has; that it is no JSON text; that it is one, and its
-- value is no report's; or want of memory.
abbrev pub ReadsReport : List ℕ → Result Report JsonFault → Type 0
ReadsReport text (Ok report) = (value : Data) × Reads text value × Finds value (Some report)
ReadsReport text (Err fault.Json) = (value : Data) → ¬ (Reads text value)
ReadsReport text (Err fault.Shape) = (value : Data) × Reads text value × Finds value None
ReadsReport text (Err fault.Memory) = Unit {0}
