-- The value of a report has no float.
use Rattle.std.proofs.Common.{◌≡◌, ℕ, List, [], ◌∷◌, Bool, false, map, refl, ap₂}
use Rattle.std.specs.Prelude.{◌||◌}
use Rattle.serde_json.specs.Data.{Data, string}
use Rattle.serde_json.specs.View.{items_of}
use Rattle.serde_json.specs.Written.{has_float, items_have_float}
use Rattle.feature_trees.specs.declared.version.Version.{Version}
use Rattle.tree_clauses.specs.declared.clause.Clause.{Clause}
use Rattle.tree_clauses.specs.ClauseText.{literal_content}
use Rattle.outcome_report.specs.declared.outcome_report.ReportEntry.{ReportEntry}
use Rattle.outcome_report.specs.declared.outcome_report.ReportPart.{ReportPart}
use Rattle.outcome_report.specs.declared.outcome_report.Report.{Report}
use Rattle.report_text.specs.ReportText.{call_content}
use Rattle.report_json.specs.ReportJson.{texts_json, clause_json, version_lines, entry_json, part_json, json_of}

-- a list of values without floats
items_plain : {X : Type 0} (f : X → Data) → ((x : X) → has_float (f x) ≡ false) → (xs : List X) → items_have_float (items_of (map f xs)) ≡ false
items_plain f plain [] = refl
items_plain f plain (x ∷ xs) = ap₂ (λ a b. a || b) (plain x) (items_plain f plain xs)

texts_plain : (texts : List (List ℕ)) → has_float (texts_json texts) ≡ false
texts_plain texts = items_plain string (λ t. refl) texts

-- one more without floats
behind : (a b : Bool) → a ≡ false → b ≡ false → (a || b) ≡ false
behind a b e f = ap₂ (λ a b. a || b) e f

clause_plain : (version : Version) (clause : Clause) → has_float (clause_json version clause) ≡ false
unfolding clause_json
clause_plain version clause = behind _ _ (texts_plain (map (literal_content version) clause.literals)) refl

entry_plain : (version : Version) (entry : ReportEntry) → has_float (entry_json version entry) ≡ false
unfolding entry_json
entry_plain version entry =
    behind _ _ (texts_plain (version_lines version entry.replayed.after))
    (behind _ _ (texts_plain (map call_content entry.replayed.calls))
    (behind _ _ (clause_plain version entry.outcome.clause) (behind _ _ (texts_plain (version_lines version entry.outcome.shown)) refl)))

part_plain : (version : Version) (part : ReportPart) → has_float (part_json version part) ≡ false
unfolding part_json
part_plain version part = behind _ _ (items_plain (entry_json version) (entry_plain version) part.entries) refl

pub report_plain : (version : Version) (report : Report) → has_float (json_of version report) ≡ false
unfolding json_of
report_plain version report = behind _ _ (items_plain (part_json version) (part_plain version) report.parts) refl
