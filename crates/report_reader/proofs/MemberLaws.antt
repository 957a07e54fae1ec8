-- What stands in the value of a report is read as what it was made of, piece by piece.
use Rattle.std.proofs.Common.{◌≡◌, ◌-◌, ◌^◌, ◌≤◌, true, List, [], ◌∷◌, ◌++◌, map, Some, Ok, sym, ap, ◌∙◌, arith, append_assoc, append-nil}
use Rattle.std.specs.Prelude.{◌&&◌, codes}
use Rattle.std.specs.List.{flat_map, list_all}
use Rattle.std.specs.Option.{option_and_then}
use Rattle.std.proofs.lemmas.Bool.{and_parts, leb-true}
use Rattle.serde_json.specs.Data.{string}
use Rattle.serde_json.specs.View.{items_of}
use Rattle.shown_texts.specs.Lines.{line, lines_text}
use Rattle.feature_trees.specs.declared.kind.Kind.TheVariants as kind
use Rattle.feature_trees.specs.declared.read.TheConstants.{MOST_NAMES}
use Rattle.feature_trees.specs.declared.value.Value.{Value}
use Rattle.feature_trees.specs.declared.version.Version.{Version}
use Rattle.feature_trees.specs.declared.version.Version.TheVariants.{First, Second}
use Rattle.feature_trees.specs.Readable.{depth, of_bytes}
use Rattle.feature_trees.specs.Sound.{IsTree}
use Rattle.feature_trees.specs.Tree.{kind_of}
use Rattle.feature_trees.specs.TreeLines.{tree_of}
use Rattle.feature_trees.proofs.ReadBack.{read_back, first_read_back}
use Rattle.tree_clauses.specs.declared.clause.Clause.{Clause}
use Rattle.tree_clauses.specs.ClauseRead.{is_var, is_literal, is_clause, has_text as has_clause_text}
use Rattle.tree_clauses.specs.ClauseText.{var_text, literal_content, literal_text, clause_text}
use Rattle.scenario_runs.specs.declared.call.ScriptCall.{ScriptCall}
use Rattle.report_text.specs.PieceRead.{is_call}
use Rattle.report_text.specs.ReportText.{call_content}
use Rattle.report_text.specs.Whole.{IsRepresentableTree}
use Rattle.report_text.proofs.PieceReading.{call_read}
use Rattle.report_text.proofs.TextApart.{literals_spelled}
use Rattle.report_json.specs.ReportJson.{clause_json, version_lines}
use Rattle.report_reader.specs.ReportRead.{lines_onto, tree_found, calls_onto, clause_with, clause_from, clause_in}
use Rattle.report_reader.proofs.ClauseFacts.{short_is, clause_found}
use Rattle.report_reader.proofs.LineLaws.{lines_back}

-- ---- trees

lines_read : (version : Version) (v : Value) → IsTree v → depth v ≤ MOST_NAMES → of_bytes v ≡ true → tree_of (lines_text (version_lines version v)) ≡ Ok v
lines_read First v t low b = first_read_back v t low b
lines_read Second v t low b = read_back v t low b

pub tree_back : (version : Version) (v : Value) → kind_of v ≡ kind.Dir → IsRepresentableTree v → depth v ≤ MOST_NAMES
    → option_and_then (λ text. tree_found (tree_of text)) (lines_onto [] (items_of (map string (version_lines version v)))) ≡ Some v
tree_back version v d h low =
    ap (option_and_then (λ text. tree_found (tree_of text))) (lines_back (version_lines version v))
    ∙ ap tree_found (lines_read version v (record { dir = d; sound = h.sound }) low h.bytes)

-- ---- calls

calls_added : (done calls : List ScriptCall) → list_all is_call calls ≡ true
    → calls_onto done (items_of (map string (map call_content calls))) ≡ Some (done ++ calls)
calls_added done [] h = ap Some (sym (append-nil done))
calls_added done (call ∷ calls) h =
    let k = and_parts (is_call call) (list_all is_call calls) h in
    ap (option_and_then (λ (found : ScriptCall). calls_onto (done ++ found ∷ []) (items_of (map string (map call_content calls))))) (call_read call k.0)
    ∙ calls_added (done ++ call ∷ []) calls k.1 ∙ ap Some (append_assoc done (call ∷ []) calls)

pub calls_back : (calls : List ScriptCall) → list_all is_call calls ≡ true → calls_onto [] (items_of (map string (map call_content calls))) ≡ Some calls
calls_back calls h = calls_added [] calls h

-- ---- clauses

clause_joined : (version : Version) (clause : Clause)
    → clause_from clause.start.0 clause.now.0 (flat_map (literal_text version) clause.literals) ≡ clause_with (clause_text version clause)
clause_joined version clause =
    ap (λ t. clause_with (t ++ flat_map (literal_text version) clause.literals))
    (append-nil (line (codes "clause start " ++ var_text clause.start ++ codes " now " ++ var_text clause.now)))

pub clause_back : (version : Version) (clause : Clause) → is_clause clause ≡ true → has_clause_text version clause ≡ true
    → clause_in (clause_json version clause) ≡ Some clause
unfolding clause_json
clause_back version clause h t =
    let k = and_parts (is_var clause.start) (is_var clause.now && list_all is_literal clause.literals) h in
    let r = and_parts (is_var clause.now) (list_all is_literal clause.literals) k.1 in
    let start = short_is clause.start.0 (omega (arith, leb-true clause.start.0 (2 ^ 32 - 1) k.0)) in
    let now = short_is clause.now.0 (omega (arith, leb-true clause.now.0 (2 ^ 32 - 1) r.0)) in
    let lines = lines_back (map (literal_content version) clause.literals) ∙ ap Some (sym (literals_spelled version clause.literals)) in
    (λ i. option_and_then (λ start. option_and_then (λ now. option_and_then (clause_from start now) (lines i)) (now i)) (start i))
    ∙ clause_joined version clause ∙ clause_found version clause h t
