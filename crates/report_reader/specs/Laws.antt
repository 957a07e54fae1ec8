-- What holds of the JSON texts of reports.
use Rattle.std.specs.Prelude.{◌≡◌, Result, Ok, Err, IsTrue}
use Rattle.feature_trees.specs.declared.version.Version.{Version}
use Rattle.outcome_report.specs.declared.outcome_report.Report.{Report}
use Rattle.report_json.specs.FirstVersion.{has_text}
use Rattle.report_json.specs.ReportJson.{version_text}
use Rattle.report_reader.specs.declared.read.JsonFault.{JsonFault}
use Rattle.report_reader.specs.declared.read.JsonFault.TheVariants as fault
use Rattle.report_reader.specs.JsonAnswers.{IsReadable, ReadsReport}

-- the answer is the report, or want of memory
abbrev pub IsReadAs : Report → Result Report JsonFault → Type 0
IsReadAs report (Ok found) = found ≡ report
IsReadAs report (Err fault.Json) = ⊥
IsReadAs report (Err fault.Shape) = ⊥
IsReadAs report (Err fault.Memory) = Unit {0}

-- the JSON text of a whole report is read as the report, in each version of which it has a text
abbrev pub ReportsReadBack : Type 0
ReportsReadBack =
    (version : Version) (report : Report) → IsReadable report → IsTrue (has_text version report)
    → (answer : Result Report JsonFault) → ReadsReport (version_text version report) answer → IsReadAs report answer
