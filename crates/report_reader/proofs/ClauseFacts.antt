-- The clause that a text tells.
use Rattle.std.proofs.Common.{◌≡◌, ℕ, ◌^◌, ◌<◌, Bool, true, false, IsTrue, List, Some, None, refl, ap, ◌∙◌}
use Rattle.std.specs.Prelude.{Option, ◌&&◌, if◌then◌else◌}
use Rattle.std.specs.Option.{option_and_then}
use Rattle.std.proofs.lemmas.Bool.{and_parts, and_from, lt-ltb}
use Rattle.feature_trees.specs.declared.version.Version.{Version}
use Rattle.tree_clauses.specs.declared.clause.Clause.{Clause}
use Rattle.tree_clauses.specs.ClauseRead.{is_clause, clause_of, tells, has_text}
use Rattle.tree_clauses.specs.ClauseText.{clause_text}
use Rattle.tree_clauses.proofs.ClauseLaw.{tells_itself, told_read}
use Rattle.report_reader.specs.ReportRead.{short, if_told, clause_with}

pub short_is : (n : ℕ) → n < 2 ^ 32 → short n ≡ Some n
short_is n lt = ap (λ t. if t then Some n else None) (lt-ltb n (2 ^ 32) lt)

-- the clause that a text tells is found
pub clause_told : (text : List ℕ) (clause : Clause) → is_clause clause ≡ true → tells clause text ≡ true → clause_with text ≡ Some clause
clause_told text clause h t =
    ap (option_and_then (if_told text)) (told_read clause text h t)
    ∙ ap (λ b. if b then Some clause else None) (and_from (is_clause clause) (tells clause text) h t)

pub clause_found : (version : Version) (clause : Clause) → is_clause clause ≡ true → has_text version clause ≡ true
    → clause_with (clause_text version clause) ≡ Some clause
clause_found version clause h t = clause_told (clause_text version clause) clause h (tells_itself version clause h t)

-- the text tells no clause
pub clause_missed : (text : List ℕ) → ((clause : Clause) → IsTrue (is_clause clause) → ¬ (IsTrue (tells clause text))) → clause_with text ≡ None
clause_missed text none = step (clause_of text)
  where
    tested : (clause : Clause) (t : Bool) → (is_clause clause && tells clause text) ≡ t → (if t then Some clause else None) ≡ None
    tested clause true e = let k = and_parts (is_clause clause) (tells clause text) e in absurd (none clause k.0 k.1)
    tested clause false e = refl

    step : (o : Option Clause) → option_and_then (if_told text) o ≡ None
    step None = refl
    step (Some clause) = tested clause (is_clause clause && tells clause text) refl
