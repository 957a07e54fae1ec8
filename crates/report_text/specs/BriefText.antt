-- The brief text of a report: of each outcome its number, its ending and its trace.
use Rattle.std.specs.Prelude.{ℕ, List, ◌++◌, codes}
use Rattle.std.specs.List.{flat_map}
use Rattle.shown_texts.specs.Lines.{line}
use Rattle.outcome_report.specs.declared.outcome_report.ReportEntry.{ReportEntry}
use Rattle.outcome_report.specs.declared.outcome_report.ReportPart.{ReportPart}
use Rattle.outcome_report.specs.declared.outcome_report.Report.{Report}
use Rattle.report_text.specs.ReportText.{outcome_line, trace_line, scenario_line, verdict_line}

-- the lines of an outcome
unfoldable pub brief_entry : ReportEntry → List ℕ
brief_entry entry = outcome_line entry ++ trace_line entry.outcome.trace

-- the lines of a scenario
unfoldable pub brief_part : ReportPart → List ℕ
brief_part part = scenario_line part ++ flat_map brief_entry part.entries

-- the brief text of a report
unfoldable pub brief_text : Report → List ℕ
brief_text report = line (codes "colis brief 2") ++ flat_map brief_part report.parts ++ verdict_line report
