-- What stands at places of borrowed values, and the first of them of which something holds.
use Rattle.std.proofs.Common.{◌≡◌, ℕ, ◌+◌, ◌<◌, ◌≤◌, List, All, length, map, get_or, Bor, sym, subst, ap, ◌∙◌, inl, inr, arith}
use Rattle.std.specs.List.{AllWithin, HoldsAt}
use Rattle.std.proofs.lemmas.List.{get_or-map, length-map}
use Rattle.tree_clauses.specs.declared.clause.Clause.{Clause}
use Rattle.tree_clauses.proofs.Names.{last_cases}
use Rattle.tree_predictions.specs.Picks.{IsFirst}

-- the values of borrowed ones
abbrev pub lent : List (Bor Clause) → List Clause
lent clauses = map (λ clause. clause.now) clauses

pub lent_at : (clauses : List (Bor Clause)) (i : ℕ) (x : Bor Clause) → i < length clauses → x ≡ get_or clauses i x → (d : Clause)
    → get_or (lent clauses) i d ≡ x.now
lent_at clauses i x lt is d = get_or-map (λ clause. clause.now) clauses i x d lt ∙ ap (λ clause. clause.now) (sym is)

pub lent_within : (clauses : List (Bor Clause)) (i : ℕ) → i < length clauses → i < length (lent clauses)
lent_within clauses i lt = subst (λ n. i < n) (sym (length-map clauses (λ clause. clause.now))) lt

module _ (P : Clause → Type 0) (clauses : List Clause) (i : ℕ) (x : Clause) (lt : i < length clauses) (at : (d : Clause) → get_or clauses i d ≡ x) where
  pub holds_at : P x → HoldsAt P clauses i
  holds_at p d = subst P (sym (at d)) p

  -- one more
  pub one_more : P x → AllWithin P clauses 0 i → AllWithin P clauses 0 (i + 1)
  one_more p before k d low under =
      elim (last_cases k i under) [
        | inl h ↦ before k d low h
        | inr e ↦ subst (λ j. P (get_or clauses j d)) (sym e) (holds_at p d)
      ]

  -- what holds of all holds of one
  pub of_one : All P clauses → P x
  of_one all = subst P (at x) (all i x lt)

  -- the first
  pub is_first : (n : ℕ) → n ≡ i + 1 → P x → AllWithin (λ clause. ¬ (P clause)) clauses 0 i → IsFirst P clauses n
  is_first n counted p before = record {
    place = i;
    counted = counted;
    within = lt;
    holds = holds_at p;
    first = before;
  }

-- of all
pub of_all : (P : Clause → Type 0) (clauses : List Clause) (i : ℕ) → length clauses ≤ i → AllWithin P clauses 0 i → All P clauses
of_all P clauses i le before k d lt = before k d (omega arith) (omega (arith, lt, le))
