-- What is told of the parts of reports, wholly or briefly: the lines on each, and what its outcomes make of the verdict.
use Rattle.std.specs.Prelude.{◌≡◌, ℕ, List, codes, Option, Result, Ok, Err}
use Rattle.std.specs.List.{AllZip}
use Rattle.shown_texts.specs.Lines.{line}
use Rattle.feature_trees.specs.declared.value.Value.{Value}
use Rattle.dpkg_scenarios.specs.declared.scenario.Scenario.{Scenario}
use Rattle.scenario_runs.specs.declared.replayed.Replayed.{Replayed}
use Rattle.scenario_outcomes.specs.declared.outcome.OutcomesFault.{OutcomesFault}
use Rattle.outcome_report.specs.declared.outcome_report.ReportPart.{ReportPart}
use Rattle.outcome_report.specs.declared.outcome_report.Report.{Report}
use Rattle.report_text.specs.declared.told_part.Telling.{Telling}
use Rattle.report_text.specs.declared.told_part.Telling.TheVariants.{Wholly, Briefly}
use Rattle.report_text.specs.declared.told_part.ToldPart.{ToldPart}
use Rattle.outcome_report.specs.OutcomeReport.{PartAnswers, part_has}
use Rattle.dpkg_scenarios.specs.Verdicts.{verdict_on}
use Rattle.report_text.specs.BriefText.{brief_part, brief_text}
use Rattle.report_text.specs.ReportText.{part_text, report_text}
use Rattle.report_text.specs.Whole.{AllRepresentable}

-- ---- the lines

-- the lines of a part that is told so
abbrev pub part_lines : Telling → ReportPart → List ℕ
part_lines Wholly part = part_text part
part_lines Briefly part = brief_part part

-- what stands in the first line of a report that is told so
abbrev pub first_words : Telling → List ℕ
first_words Wholly = codes "colis report 2"
first_words Briefly = codes "colis brief 2"

-- that line
abbrev pub first_line : Telling → List ℕ
first_line telling = line (first_words telling)

-- the lines of a report that is told so
abbrev pub report_lines : Telling → Report → List ℕ
report_lines Wholly report = report_text report
report_lines Briefly report = brief_text report

-- ---- a part

-- this is told of the part, which the program's types represent: its lines, and what its outcomes make of the verdict
pub record Tells (telling : Telling) (part : ReportPart) (told : ToldPart) : Type 0 where
  pub representable : AllRepresentable part.entries
  pub text : told.text ≡ part_lines telling part
  pub failed : told.failed ≡ part_has 1 part
  pub unfinished : told.unfinished ≡ part_has 2 part

-- what is told is told of some part that is the answer
pub record IsTold (telling : Telling) (run : Value → Option Replayed) (start : Value → Type 0) (limit : ℕ)
    (scenario : Scenario) (told : ToldPart) : Type 0 where
  pub part : ReportPart
  pub of_scenario : part.scenario ≡ scenario
  pub answers : PartAnswers run start limit (Ok part)
  pub tells : Tells telling part told

-- The answer: what is told of a part; and a fault exactly as for the part itself.
abbrev pub ToldAnswers : Telling → (Value → Option Replayed) → (Value → Type 0) → ℕ → Scenario
    → Result ToldPart OutcomesFault → Type 0
ToldAnswers telling run start limit scenario (Ok told) = IsTold telling run start limit scenario told
ToldAnswers telling run start limit scenario (Err fault) = PartAnswers run start limit (Err fault)

-- ---- parts

-- this is told of the parts, in their order
abbrev pub AreTold : Telling → List ReportPart → List ToldPart → Type 0
AreTold telling parts told = AllZip (Tells telling) parts told

-- what parts of which this is told make of the verdict
abbrev pub told_verdict : List ToldPart → ℕ
told_verdict told = verdict_on (λ (one : ToldPart). one.failed) (λ (one : ToldPart). one.unfinished) told

-- the lines of a part of which this is told
abbrev pub lines_of : ToldPart → List ℕ
lines_of one = one.text
