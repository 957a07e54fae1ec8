-- What the text of a report tells, and what tells its brief text.
use Rattle.std.specs.Prelude.{◌≡◌, map}
use Rattle.outcome_report.specs.declared.outcome_report.Report.{Report}
use Rattle.outcome_report.specs.Laws.{scenario_and_endings}
use Rattle.report_text.specs.BriefText.{brief_text}
use Rattle.report_text.specs.Numbered.{AllNumbered}
use Rattle.report_text.specs.ReportText.{report_text}
use Rattle.report_text.specs.Whole.{IsRepresentable, IsWhole}

-- two whole reports that the program's types represent, with the same text, are the same
abbrev pub TextsTellReports : Type 0
TextsTellReports =
    (a b : Report) → IsRepresentable a → IsRepresentable b → IsWhole a → IsWhole b
    → report_text a ≡ report_text b
    → a ≡ b

-- reports on the same scenarios, whose outcomes have the same endings and traces, have one brief text
abbrev pub EndingsTellBriefTexts : Type 0
EndingsTellBriefTexts = (a b : Report) → AllNumbered a.parts → AllNumbered b.parts
    → map scenario_and_endings a.parts ≡ map scenario_and_endings b.parts
    → brief_text a ≡ brief_text b
