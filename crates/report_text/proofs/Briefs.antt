-- The brief text as a function of scenarios, endings and traces.
use Rattle.std.proofs.Common.{◌≡◌, ℕ, suc, Bool, List, [], ◌∷◌, ◌++◌, map, length, refl, sym, ap, ◌∙◌}
use Rattle.std.proofs.lemmas.List.{length-map}
use Rattle.std.specs.Prelude.{◌||◌, ◌==◌, codes}
use Rattle.std.specs.List.{flat_map, list_any}
use Rattle.std.specs.Fmt.{decimal}
use Rattle.script_names.specs.declared.mark.Mark.{Mark}
use Rattle.dpkg_scenarios.specs.declared.scenario.Ending.{Ending}
use Rattle.dpkg_scenarios.specs.declared.scenario.Scenario.{Scenario}
use Rattle.shown_texts.specs.Lines.{line}
use Rattle.outcome_report.specs.declared.outcome_report.ReportEntry.{ReportEntry}
use Rattle.outcome_report.specs.declared.outcome_report.ReportPart.{ReportPart}
use Rattle.outcome_report.specs.declared.outcome_report.Report.{Report}
use Rattle.outcome_report.specs.OutcomeReport.{part_has, report_has, verdict_of}
use Rattle.dpkg_scenarios.specs.Verdicts.{ending_verdict, joint_verdict}
use Rattle.dpkg_scenarios.specs.Names.{scenario_name}
use Rattle.report_text.specs.ReportText.{result_text, outcome_line, trace_line, scenario_line, verdict_line}
use Rattle.report_text.specs.BriefText.{brief_entry, brief_part, brief_text}
use Rattle.report_text.specs.Numbered.{AreNumbered, AllNumbered}
use Rattle.outcome_report.specs.Laws.{ending_and_trace, scenario_and_endings}
use Rattle.report_text.specs.TextLaws.{EndingsTellBriefTexts}

abbrev pub Told : Type 0
Told = List (Ending × List Mark)

abbrev pub Scenarios : Type 0
Scenarios = List (Scenario × Told)

-- ---- entries

abbrev outcome_told : ℕ → Ending → List ℕ
outcome_told n ending = line (codes "outcome " ++ decimal n ++ codes " " ++ result_text ending)

abbrev told : ℕ → Told → List ℕ
told n [] = []
told n (t ∷ ts) = outcome_told n t.0 ++ trace_line t.1 ++ told (suc n) ts

outcome_is : (entry : ReportEntry) (n : ℕ) → entry.outcome.number ≡ n → outcome_line entry ≡ outcome_told n entry.outcome.ending
unfolding outcome_line
outcome_is entry n e = ap (λ k. outcome_told k entry.outcome.ending) e

entry_is : (entry : ReportEntry) (n : ℕ) → entry.outcome.number ≡ n
    → brief_entry entry ≡ outcome_told n entry.outcome.ending ++ trace_line entry.outcome.trace
unfolding brief_entry
entry_is entry n e = ap (λ t. t ++ trace_line entry.outcome.trace) (outcome_is entry n e)

entries_are : (entries : List ReportEntry) (n : ℕ) → AreNumbered n entries
    → flat_map brief_entry entries ≡ told n (map ending_and_trace entries)
entries_are [] n numbered = refl
entries_are (entry ∷ entries) n numbered =
    ap (λ t. t ++ flat_map brief_entry entries) (entry_is entry n numbered.0)
    ∙ ap (λ t. outcome_told n entry.outcome.ending ++ trace_line entry.outcome.trace ++ t) (entries_are entries (suc n) numbered.1)

-- ---- parts

abbrev part_told : Scenario × Told → List ℕ
part_told s =
    line (codes "scenario " ++ scenario_name s.0 ++ codes " outcomes " ++ decimal (length s.1)) ++ told 1 s.1

scenario_is : (part : ReportPart)
    → scenario_line part
    ≡ line (codes "scenario " ++ scenario_name part.scenario ++ codes " outcomes " ++ decimal (length (map ending_and_trace part.entries)))
unfolding scenario_line
scenario_is part =
    ap (λ n. line (codes "scenario " ++ scenario_name part.scenario ++ codes " outcomes " ++ decimal n))
    (sym (length-map part.entries ending_and_trace))

part_is : (part : ReportPart) → AreNumbered 1 part.entries → brief_part part ≡ part_told (scenario_and_endings part)
unfolding brief_part
part_is part numbered =
    ap (λ t. t ++ flat_map brief_entry part.entries) (scenario_is part)
    ∙ ap (λ t. line (codes "scenario " ++ scenario_name part.scenario ++ codes " outcomes " ++ decimal (length (map ending_and_trace part.entries))) ++ t)
    (entries_are part.entries 1 numbered)

parts_are : (parts : List ReportPart) → AllNumbered parts
    → flat_map brief_part parts ≡ flat_map part_told (map scenario_and_endings parts)
parts_are [] numbered = refl
parts_are (part ∷ parts) numbered =
    ap (λ t. t ++ flat_map brief_part parts) (part_is part numbered.0)
    ∙ ap (λ t. part_told (scenario_and_endings part) ++ t) (parts_are parts numbered.1)

-- ---- the verdict

abbrev pub has_told : ℕ → Scenario × Told → Bool
has_told v s = list_any (λ t. ending_verdict t.0 == v) s.1

entries_have : (v : ℕ) (entries : List ReportEntry)
    → list_any (λ (entry : ReportEntry). ending_verdict entry.outcome.ending == v) entries
    ≡ list_any (λ t. ending_verdict t.0 == v) (map ending_and_trace entries)
entries_have v [] = refl
entries_have v (entry ∷ entries) = ap (λ b. (ending_verdict entry.outcome.ending == v) || b) (entries_have v entries)

parts_have : (v : ℕ) (parts : List ReportPart) → list_any (part_has v) parts ≡ list_any (has_told v) (map scenario_and_endings parts)
parts_have v [] = refl
parts_have v (part ∷ parts) =
    ap (λ b. b || list_any (part_has v) parts) (entries_have v part.entries)
    ∙ ap (λ b. has_told v (scenario_and_endings part) || b) (parts_have v parts)

abbrev pub verdict_told : Scenarios → ℕ
verdict_told ss = joint_verdict (list_any (has_told 1) ss) (list_any (has_told 2) ss)

pub verdict_is : (report : Report) → verdict_of report ≡ verdict_told (map scenario_and_endings report.parts)
verdict_is report =
    ap (λ b. joint_verdict b (report_has 2 report)) (parts_have 1 report.parts)
    ∙ ap (joint_verdict (list_any (has_told 1) (map scenario_and_endings report.parts))) (parts_have 2 report.parts)

verdict_line_is : (report : Report) → verdict_line report ≡ line (codes "verdict " ++ decimal (verdict_told (map scenario_and_endings report.parts)))
unfolding verdict_line
verdict_line_is report = ap (λ n. line (codes "verdict " ++ decimal n)) (verdict_is report)

-- ---- reports

abbrev report_told : Scenarios → List ℕ
report_told ss = line (codes "colis brief 2") ++ flat_map part_told ss ++ line (codes "verdict " ++ decimal (verdict_told ss))

report_is : (report : Report) → AllNumbered report.parts → brief_text report ≡ report_told (map scenario_and_endings report.parts)
unfolding brief_text
report_is report numbered =
    ap (λ t. line (codes "colis brief 2") ++ t ++ verdict_line report) (parts_are report.parts numbered)
    ∙ ap (λ t. line (codes "colis brief 2") ++ flat_map part_told (map scenario_and_endings report.parts) ++ t) (verdict_line_is report)

pub endings_tell : EndingsTellBriefTexts
endings_tell a b first second same = report_is a first ∙ ap report_told same ∙ sym (report_is b second)
