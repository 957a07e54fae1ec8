-- How deep the value of a report is.
use Rattle.std.proofs.Common.{◌≡◌, ℕ, ◌≤◌, List, [], ◌∷◌, map, refl, arith}
use Rattle.serde_json.specs.Data.{Data, string, depth, items_depth}
use Rattle.serde_json.specs.View.{items_of}
use Rattle.feature_trees.specs.declared.version.Version.{Version}
use Rattle.tree_clauses.specs.declared.clause.Clause.{Clause}
use Rattle.tree_clauses.specs.ClauseText.{literal_content}
use Rattle.outcome_report.specs.declared.outcome_report.Report.{Report}
use Rattle.outcome_report.specs.declared.outcome_report.ReportEntry.{ReportEntry}
use Rattle.outcome_report.specs.declared.outcome_report.ReportPart.{ReportPart}
use Rattle.report_text.specs.ReportText.{call_content}
use Rattle.report_json.specs.ReportJson.{texts_json, clause_json, version_lines, entry_json, part_json, json_of}

texts_depth : (texts : List (List ℕ)) → items_depth (items_of (map string texts)) ≡ 0
texts_depth [] = refl
texts_depth (t ∷ texts) = rw (texts_depth texts) refl

list_depth : (texts : List (List ℕ)) → depth (texts_json texts) ≤ 1
list_depth texts = omega (arith, texts_depth texts)

clause_depth : (version : Version) (clause : Clause) → depth (clause_json version clause) ≤ 2
unfolding clause_json
clause_depth version clause = omega (arith, list_depth (map (literal_content version) clause.literals))

entry_depth : (version : Version) (e : ReportEntry) → depth (entry_json version e) ≤ 3
unfolding entry_json
entry_depth version e =
    omega (arith, list_depth (version_lines version e.replayed.after), list_depth (map call_content e.replayed.calls), clause_depth version e.outcome.clause, list_depth (version_lines version e.outcome.shown))

items_shallow : {X : Type 0} (f : X → Data) (n : ℕ) → ((x : X) → depth (f x) ≤ n) → (xs : List X) → items_depth (items_of (map f xs)) ≤ n
items_shallow f n low [] = omega arith
items_shallow f n low (x ∷ xs) = omega (arith, low x, items_shallow f n low xs)

part_depth : (version : Version) (p : ReportPart) → depth (part_json version p) ≤ 5
unfolding part_json
part_depth version p = omega (arith, items_shallow (entry_json version) 3 (entry_depth version) p.entries)

pub report_depth : (version : Version) (report : Report) → depth (json_of version report) ≤ 127
unfolding json_of
report_depth version report = omega (arith, items_shallow (part_json version) 5 (part_depth version) report.parts)
