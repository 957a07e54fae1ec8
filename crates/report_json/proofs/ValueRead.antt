-- The outline of a report's value is the value, and its numbers are numbers, as a reader of JSON wants it.
use Rattle.std.proofs.Common.{◌≡◌, ℕ, ◌-◌, ◌^◌, ◌<◌, ◌≤◌, Bool, true, false, List, [], ◌∷◌, map, Some, refl, ap, arith}
use Rattle.std.specs.Prelude.{◌&&◌, codes}
use Rattle.std.specs.List.{list_all, join_with_byte}
use Rattle.std.specs.Option.{option_map, option_and_then}
use Rattle.std.proofs.lemmas.Bool.{and_parts, leb-true}
use Rattle.json.specs.Tree as tree
use Rattle.json.proofs.Printed.Decimals.{IsNumber-decimal}
use Rattle.serde_json.specs.Data.{boolean, number, string, array, object, item, no_members, put}
use Rattle.serde_json.specs.Read.{of_json, of_items}
use Rattle.serde_json.specs.View.{items_of}
use Rattle.serde_json.specs.Written.{outline, items_outline}
use Rattle.serde_json.proofs.Numbers.{number_of-decimal}
use Rattle.shown_texts.specs.Marks.{mark_text}
use Rattle.feature_trees.specs.declared.version.Version.{Version}
use Rattle.feature_trees.specs.declared.version.Version.TheVariants.{First, Second}
use Rattle.tree_clauses.specs.declared.clause.Clause.{Clause}
use Rattle.tree_clauses.specs.ClauseRead.{is_var, is_literal, is_clause}
use Rattle.tree_clauses.specs.ClauseText.{literal_content}
use Rattle.outcome_report.specs.declared.outcome_report.Report.{Report}
use Rattle.outcome_report.specs.declared.outcome_report.ReportEntry.{ReportEntry}
use Rattle.outcome_report.specs.declared.outcome_report.ReportPart.{ReportPart}
use Rattle.outcome_report.specs.OutcomeReport.{verdict_of, report_has}
use Rattle.dpkg_scenarios.specs.Verdicts.{joint_verdict}
use Rattle.dpkg_scenarios.specs.Names.{scenario_name}
use Rattle.report_text.specs.ReportText.{result_text, call_content}
use Rattle.report_text.specs.Whole.{IsRepresentableEntry, AllRepresentable, AllPartsRepresentable, IsRepresentable}
use Rattle.report_json.specs.ReportJson.{clause_json, version_lines, entry_json, part_json, version_number, json_of}

-- ---- texts

texts_same : (texts : List (List ℕ)) → of_items (items_outline (items_of (map string texts))) ≡ Some (items_of (map string texts))
texts_same [] = refl
texts_same (t ∷ texts) = ap (option_map (item (string t))) (texts_same texts)

-- ---- clauses

small_var : (n : ℕ) → n ≤ 2 ^ 32 - 1 → n < 2 ^ 64
small_var n h = omega (arith, h)

pub record ClauseParts (clause : Clause) : Type 0 where
  pub start : clause.start.0 < 2 ^ 64
  pub now : clause.now.0 < 2 ^ 64
  pub literals : list_all is_literal clause.literals ≡ true

pub clause_parts : (clause : Clause) → is_clause clause ≡ true → ClauseParts clause
clause_parts clause h =
    let k = and_parts (is_var clause.start) (is_var clause.now && list_all is_literal clause.literals) h in
    let r = and_parts (is_var clause.now) (list_all is_literal clause.literals) k.1 in
    record {
      start = small_var clause.start.0 (leb-true clause.start.0 (2 ^ 32 - 1) k.0);
      now = small_var clause.now.0 (leb-true clause.now.0 (2 ^ 32 - 1) r.0);
      literals = r.1;
    }

clause_same : (version : Version) (clause : Clause) → is_clause clause ≡ true → of_json (outline (clause_json version clause)) ≡ Some (clause_json version clause)
unfolding clause_json
clause_same version clause h =
    let k = clause_parts clause h in
    let start = number_of-decimal clause.start.0 k.start in
    let now = number_of-decimal clause.now.0 k.now in
    λ i. option_map object (option_and_then (λ d. option_and_then (λ e. option_and_then (λ f.
    Some (put (codes "start") f (put (codes "now") e (put (codes "literals") d no_members))))
    (option_map number (start i))) (option_map number (now i))) (option_map array (texts_same (map (literal_content version) clause.literals) i)))

-- ---- entries

entry_same : (version : Version) (e : ReportEntry) → IsRepresentableEntry e → of_json (outline (entry_json version e)) ≡ Some (entry_json version e)
unfolding entry_json
entry_same version e h =
    let n = number_of-decimal e.outcome.number (omega (arith, h.number)) in
    λ i. option_map object (option_and_then (λ after. option_and_then (λ calls. option_and_then (λ clause. option_and_then (λ count. option_and_then (λ shown.
    Some (put (codes "trace") (string (join_with_byte 32 (map mark_text e.outcome.trace))) (put (codes "shown") shown
    (put (codes "result") (string (result_text e.outcome.ending)) (put (codes "number") count (put (codes "confirmed") (boolean e.confirmed)
    (put (codes "clause") clause (put (codes "calls") calls (put (codes "after") after no_members)))))))))
    (option_map array (texts_same (version_lines version e.outcome.shown) i))) (option_map number (n i))) (clause_same version e.outcome.clause h.clause i))
    (option_map array (texts_same (map call_content e.replayed.calls) i))) (option_map array (texts_same (version_lines version e.replayed.after) i)))

entries_same : (version : Version) (es : List ReportEntry) → AllRepresentable es
    → of_items (items_outline (items_of (map (entry_json version) es))) ≡ Some (items_of (map (entry_json version) es))
entries_same version [] h = refl
entries_same version (e ∷ es) h = λ i. option_and_then (λ d. option_map (item d) (entries_same version es h.1 i)) (entry_same version e h.0 i)

-- ---- parts

part_same : (version : Version) (p : ReportPart) → AllRepresentable p.entries → of_json (outline (part_json version p)) ≡ Some (part_json version p)
unfolding part_json
part_same version p h =
    λ i. option_map object (option_and_then (λ d. Some (put (codes "outcomes") d (put (codes "name") (string (scenario_name p.scenario)) no_members))) (option_map array (entries_same version p.entries h i)))

parts_same : (version : Version) (ps : List ReportPart) → AllPartsRepresentable ps
    → of_items (items_outline (items_of (map (part_json version) ps))) ≡ Some (items_of (map (part_json version) ps))
parts_same version [] h = refl
parts_same version (p ∷ ps) h = λ i. option_and_then (λ d. option_map (item d) (parts_same version ps h.1 i)) (part_same version p h.0 i)

-- ---- the report

pub number_small : (version : Version) → version_number version < 2 ^ 64
number_small First = omega arith
number_small Second = omega arith

pub verdict_small : (report : Report) → verdict_of report < 2 ^ 64
verdict_small report = step (report_has 1 report) (report_has 2 report)
  where
    step : (a b : Bool) → joint_verdict a b < 2 ^ 64
    step true b = omega arith
    step false true = omega arith
    step false false = omega arith

pub report_same : (version : Version) (report : Report) → IsRepresentable report → of_json (outline (json_of version report)) ≡ Some (json_of version report)
unfolding json_of
report_same version report r =
    let one = number_of-decimal (version_number version) (number_small version) in
    let last = number_of-decimal (verdict_of report) (verdict_small report) in
    λ i. option_map object (option_and_then (λ d. option_and_then (λ e. option_and_then (λ f.
    Some (put (codes "verdict") f (put (codes "scenarios") e (put (codes "colis") d no_members))))
    (option_map number (last i))) (option_map array (parts_same version report.parts r i))) (option_map number (one i)))

-- ---- numbers

texts_numbers : (texts : List (List ℕ)) → tree.ItemsHaveNumbers (items_outline (items_of (map string texts)))
texts_numbers [] = tt
texts_numbers (t ∷ texts) = (tt, texts_numbers texts)

clause_numbers : (version : Version) (clause : Clause) → is_clause clause ≡ true → tree.HasNumbers (outline (clause_json version clause))
unfolding clause_json
clause_numbers version clause h =
    let k = clause_parts clause h in
    (texts_numbers (map (literal_content version) clause.literals), (IsNumber-decimal clause.now.0 k.now, (IsNumber-decimal clause.start.0 k.start, tt)))

entry_numbers : (version : Version) (e : ReportEntry) → IsRepresentableEntry e → tree.HasNumbers (outline (entry_json version e))
unfolding entry_json
entry_numbers version e h =
    let number = IsNumber-decimal e.outcome.number (omega (arith, h.number)) in
    (texts_numbers (version_lines version e.replayed.after), (texts_numbers (map call_content e.replayed.calls), (clause_numbers version e.outcome.clause h.clause, (tt, (number, (tt, (texts_numbers (version_lines version e.outcome.shown), (tt, tt))))))))

entries_numbers : (version : Version) (es : List ReportEntry) → AllRepresentable es → tree.ItemsHaveNumbers (items_outline (items_of (map (entry_json version) es)))
entries_numbers version [] h = tt
entries_numbers version (e ∷ es) h = (entry_numbers version e h.0, entries_numbers version es h.1)

part_numbers : (version : Version) (p : ReportPart) → AllRepresentable p.entries → tree.HasNumbers (outline (part_json version p))
unfolding part_json
part_numbers version p h = (tt, (entries_numbers version p.entries h, tt))

parts_numbers : (version : Version) (ps : List ReportPart) → AllPartsRepresentable ps → tree.ItemsHaveNumbers (items_outline (items_of (map (part_json version) ps)))
parts_numbers version [] h = tt
parts_numbers version (p ∷ ps) h = (part_numbers version p h.0, parts_numbers version ps h.1)

pub report_numbers : (version : Version) (report : Report) → IsRepresentable report → tree.HasNumbers (outline (json_of version report))
unfolding json_of
report_numbers version report r =
    (IsNumber-decimal (version_number version) (number_small version), (parts_numbers version report.parts r, (IsNumber-decimal (verdict_of report) (verdict_small report), tt)))
