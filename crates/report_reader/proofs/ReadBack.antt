-- The JSON text of a readable report is read as the report, in each version of which it has a text.
use Rattle.std.proofs.Common.{◌≡◌, Ok, Err, sym, ap, ◌∙◌}
use Rattle.serde_json.specs.Data.{Data}
use Rattle.serde_json.specs.Read.{read}
use Rattle.outcome_report.specs.declared.outcome_report.Report.{Report}
use Rattle.report_json.specs.ReportJson.{json_of, version_text}
use Rattle.report_reader.specs.declared.read.JsonFault.TheVariants as fault
use Rattle.report_reader.specs.JsonAnswers.{IsReadable, HasValue}
use Rattle.report_reader.specs.Laws.{ReportsReadBack}
use Rattle.report_reader.specs.ReportRead.{report_in}
use Rattle.report_reader.proofs.FoundFacts.{one_value}
use Rattle.report_reader.proofs.ReportLaws.{report_back, by_version, has_value}
use Rattle.report_reader.proofs.ValueLaws.{text_reads}

-- a value is one report's
told : (a b : Report) (d : Data) → IsReadable a → IsReadable b → HasValue a d → HasValue b d → a ≡ b
told a b d h g x y =
    by_version a d x (λ v s e. by_version b d y (λ w t f.
    one_value (report_in d) a b (ap report_in (sym e) ∙ report_back v a h s) (ap report_in (sym f) ∙ report_back w b g t)))

pub read_back : ReportsReadBack
read_back version report h t (Ok found) reads =
    let value = json_of version report in
    let same = one_value (read (version_text version report)) value reads.0 (text_reads version report h).1 reads.1.1 in
    told found report reads.0 reads.2.0 h reads.2.1 (has_value version report reads.0 t same)
read_back version report h t (Err fault.Json) reads = reads (json_of version report) (text_reads version report h)
read_back version report h t (Err fault.Shape) reads =
    let value = json_of version report in
    let same = one_value (read (version_text version report)) value reads.0 (text_reads version report h).1 reads.1.1 in
    reads.2 report h (has_value version report reads.0 t same)
read_back version report h t (Err fault.Memory) reads = tt
