-- The endings of a report tell its summary and its verdict.
use Rattle.std.proofs.Common.{◌≡◌, ℕ, Bool, List, [], ◌∷◌, map, refl, sym, ap, ◌∙◌}
use Rattle.std.specs.Prelude.{◌||◌, ◌==◌}
use Rattle.std.specs.List.{list_any}
use Rattle.outcome_report.specs.declared.outcome_report.ReportPart.{ReportPart}
use Rattle.outcome_report.specs.declared.outcome_report.Report.{Report}
use Rattle.outcome_report.specs.OutcomeReport.{part_has, report_has, verdict_of}
use Rattle.dpkg_scenarios.specs.Verdicts.{ending_verdict}
use Rattle.load_summary.specs.declared.endings.ScenarioEndings.{ScenarioEndings}
use Rattle.load_summary.specs.Endings.{ending_of, endings_of, HasEndings, ends_so, some_ends_so, endings_verdict}
use Rattle.load_summary.specs.Summary.{lines_text, summary_text}

any_mapped : {A B : Type 0} (f : A → B) (test : B → Bool) (xs : List A)
    → list_any test (map f xs) ≡ list_any (λ x. test (f x)) xs
any_mapped f test [] = refl
any_mapped f test (x ∷ xs) = ap (λ (b : Bool). test (f x) || b) (any_mapped f test xs)

any_same : {A : Type 0} (test other : A → Bool) → ((x : A) → test x ≡ other x) → (xs : List A) → list_any test xs ≡ list_any other xs
any_same test other same [] = refl
any_same test other same (x ∷ xs) = rw (same x, any_same test other same xs) refl

part_ends : (verdict : ℕ) (part : ReportPart) → ends_so verdict (endings_of part) ≡ part_has verdict part
part_ends verdict part = any_mapped ending_of (λ ending. ending_verdict ending == verdict) part.entries

report_ends : (verdict : ℕ) (report : Report) → some_ends_so verdict (map endings_of report.parts) ≡ report_has verdict report
report_ends verdict report =
    any_mapped endings_of (ends_so verdict) report.parts
    ∙ any_same (λ part. ends_so verdict (endings_of part)) (part_has verdict) (part_ends verdict) report.parts

of_report : (report : Report) → endings_verdict (map endings_of report.parts) ≡ verdict_of report
of_report report = rw (report_ends 1 report, report_ends 2 report) refl

pub verdict_told : (report : Report) (scenarios : List ScenarioEndings) → HasEndings report scenarios
    → endings_verdict scenarios ≡ verdict_of report
verdict_told report scenarios has = ap endings_verdict (sym has) ∙ of_report report

pub summary_told : (number : ℕ) (report : Report) (scenarios : List ScenarioEndings) → HasEndings report scenarios
    → lines_text number scenarios (endings_verdict scenarios) ≡ summary_text number report
summary_told number report scenarios has =
    ap (λ (verdict : ℕ). lines_text number scenarios verdict) (verdict_told report scenarios has)
    ∙ ap (λ (all : List ScenarioEndings). lines_text number all (verdict_of report)) (sym has)
