-- Names: two are the same or not, and lists of them.
use Rattle.std.proofs.Common.{◌≡◌, ℕ, zero, suc, ◌<◌, inl, inr, true, false, IsTrue, List, [], ◌∷◌, length, get_or, refl, sym, ap, ◌∙◌, arith}
use Rattle.std.specs.List.{Contains}
use Rattle.std.specs.Ordering.{is_eq}
use Rattle.std.proofs.lemmas.Bool.{or_cases, or_right}
use Rattle.feature_trees.specs.Tree.{name_cmp}
use Rattle.clause_solver.specs.Variables.{Listed, member}
pub use Rattle.tree_clauses.proofs.Names.{nat_cases, last_cases, bool_cases, eq_cases, same_yes, itself, name_cases}

-- the test, the relation, and std's word for it

pub listed_from_member : (f : List ℕ) (gs : List (List ℕ)) → IsTrue (member f gs) → Listed f gs
listed_from_member f [] h = cc
listed_from_member f (g ∷ gs) h = elim (or_cases (is_eq (name_cmp f g)) (member f gs) h) [
  | inl t ↦ elim (name_cases f g) [ inl q ↦ inl q.0 | inr n ↦ let bad : true ≡ false = sym t ∙ n.1 in absurd (cc) ]
  | inr t ↦ inr (listed_from_member f gs t)
]

pub member_from_listed : (f : List ℕ) (gs : List (List ℕ)) → Listed f gs → IsTrue (member f gs)
member_from_listed f [] h = absurd h
member_from_listed f (g ∷ gs) h = elim h [
  | inl e ↦ let t : is_eq (name_cmp f g) ≡ true = ap (λ x. is_eq (name_cmp f x)) (sym e) ∙ itself f in rw t refl
  | inr l ↦ or_right (is_eq (name_cmp f g)) (member f gs) (member_from_listed f gs l)
]

listed_at : (f : List ℕ) (gs : List (List ℕ)) (k : ℕ) → k < length gs → get_or gs k f ≡ f → Listed f gs
listed_at f [] k w e = absurd (omega arith)
listed_at f (g ∷ gs) zero w e = inl (sym e)
listed_at f (g ∷ gs) (suc k) w e = inr (listed_at f gs k (omega arith) e)

pub listed_from_contains : (f : List ℕ) (gs : List (List ℕ)) → Contains gs f → Listed f gs
listed_from_contains f gs c = listed_at f gs c.0 c.1 c.2

pub contains_from_listed : (f : List ℕ) (gs : List (List ℕ)) → Listed f gs → Contains gs f
contains_from_listed f [] h = absurd h
contains_from_listed f (g ∷ gs) h = elim h [
  | inl e ↦ (0, omega arith, sym e)
  | inr l ↦ let r = contains_from_listed f gs l in (suc r.0, let w = r.1 in omega arith, r.2)
]
