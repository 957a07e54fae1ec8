-- Clauses that are in solved order, part by part.
use Rattle.std.proofs.Common.{Bool, true, false, IsTrue, Option, None, Some, refl, ap, ◌≡◌, ℕ, ◌+◌, ◌<◌, ◌≤◌, zero, List, [], All, length, get_or, sym, subst, ◌∙◌, arith, inl, inr}
use Rattle.std.specs.Prelude.{◌↔◌, not, is_none}
use Rattle.std.specs.List.{AllWithin}
use Rattle.std.proofs.lemmas.List.{get_or_default}
use Rattle.tree_clauses.specs.declared.clause.Clause.{Clause}
use Rattle.tree_clauses.specs.Solved.{IsSolved}
use Rattle.tree_clauses.proofs.Names.{last_cases}
use Rattle.outcome_report.specs.declared.outcome_report.ReportPart.{ReportPart}
use Rattle.tree_predictions.specs.Picks.{IsFirst, FirstUnsolved}
use Rattle.prediction_text.specs.PredictionText.{AreSolved}

some_clause : Clause
some_clause = record { literals = []; start = record { 0 = 0 }; now = record { 0 = 0 } }

-- where some clause is not, not all are
pub not_all : (clauses : List Clause) (n : ℕ) → IsFirst (λ clause. ¬ (IsSolved clause)) clauses n → All IsSolved clauses → ⊥
not_all clauses n first all = first.holds some_clause (all first.place some_clause first.within)

-- one part more
pub one_more : (parts : List ReportPart) (i : ℕ) (part : ReportPart) → part ≡ get_or parts i part → i < length parts → AreSolved part
    → AllWithin AreSolved parts 0 i → AllWithin AreSolved parts 0 (i + 1)
one_more parts i part is lt solved before k d low under =
    elim (last_cases k i under) [
      | inl h ↦ before k d low h
      | inr e ↦ subst (λ j. AreSolved (get_or parts j d)) (sym e) (at_i d)
    ]
  where
    at_i : (d : ReportPart) → AreSolved (get_or parts i d)
    at_i d = subst AreSolved (is ∙ get_or_default parts i part d lt) solved

false_true : false ≡ true → ⊥
false_true e = cc

-- all are where the first that is not is none
pub solved_if : (clauses : List Clause) (unsolved : Option ℕ) → FirstUnsolved clauses unsolved → IsTrue (is_none unsolved) ↔ All IsSolved clauses
solved_if clauses None all = (λ t. all, λ all. refl)
solved_if clauses (Some n) first = (λ t. absurd (false_true t), λ all. absurd (not_all clauses n first all))

-- a part has a clause that is not
pub not_here : (parts : List ReportPart) (i : ℕ) (part : ReportPart) (solved : Bool) → i < length parts → part ≡ get_or parts i part
    → (AreSolved part → IsTrue solved) → solved ≡ false → IsTrue false ↔ All AreSolved parts
not_here parts i part solved lt is to e =
    (λ t. absurd (false_true t), λ all. sym e ∙ to (subst AreSolved (sym is) (all i part lt)))

-- all parts have none
pub all_solved : (parts : List ReportPart) (i : ℕ) → length parts ≤ i → AllWithin AreSolved parts 0 i → IsTrue true ↔ All AreSolved parts
all_solved parts i le before = (λ t k d lt. before k d (omega arith) (omega (arith, lt, le)), λ all. refl)

pub said_none : (some none : Bool) → some ≡ not none → not some ≡ none
said_none some true e = ap not e
said_none some false e = ap not e
