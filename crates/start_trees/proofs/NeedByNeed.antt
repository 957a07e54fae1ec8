-- The store of the trees that have what is needed, need by need.
use Rattle.std.proofs.Common.{◌≡◌, ◌↔◌, ℕ, zero, suc, List, [], ◌∷◌, ◌++◌, take, Bool, true, false, IsTrue, refl, sym, ◌∙◌, ap, subst}
use Rattle.feature_trees.specs.declared.value.Value.{Value}
use Rattle.feature_trees.specs.declared.value.Value.TheVariants as value
use Rattle.feature_trees.specs.Sound.{IsTree}
use Rattle.tree_clauses.specs.Literals.{Valuation, value_of_variable}
use Rattle.clause_solver.specs.Stands.{Seen, Stands, Alive}
use Rattle.clause_solver.specs.Pairs.{HasPair}
use Rattle.start_trees.specs.declared.need.Need.{Need}
use Rattle.start_trees.specs.Needs.{MeetsNeed, MeetsNeeds, IsStart}

-- the pairs of a store are the start trees, each with itself, and there is one
pub record StartsWith (s : Seen) (needs : List Need) : Type 0 where
  pub pairs : (t u : Value) → HasPair s t u ↔ (IsStart needs t × (u ≡ t))
  pub alive : Alive s

same_values : (g : Valuation) (t u : Value) (x : ℕ) → g ≡ t ∷ [] → x ≡ 0 → value_of_variable g x ≡ u → u ≡ t
same_values g t u x e z is = sym is ∙ ap (value_of_variable g) z ∙ ap (λ (h : Valuation). value_of_variable h 0) e

-- the directory without entries
empty_is_tree : IsTree (value.Dir [])
empty_is_tree = record { dir = refl; sound = refl }

pub starts_bare :
    (s : Seen) → s.current ≡ 0 → ((t : Value) (g : Valuation) → Stands s t g ↔ ((g ≡ t ∷ []) × IsTree t)) → StartsWith s []
starts_bare s zero_is exact = record {
  pairs = λ t u. (
    (λ (g, st, e). let both = (exact t g).0 st in (record { is_tree = both.1; met = tt }, same_values g t u s.current both.0 zero_is e)),
    (λ (start, e). (t ∷ [], (exact t (t ∷ [])).1 (refl, start.is_tree), ap (value_of_variable (t ∷ [])) zero_is ∙ sym e)),
  );
  alive = (value.Dir [], value.Dir [] ∷ [], (exact (value.Dir []) (value.Dir [] ∷ [])).1 (refl, empty_is_tree));
}

needs_more : (t : Value) (needs : List Need) (n : Need) → MeetsNeeds t needs → MeetsNeed t n → MeetsNeeds t (needs ++ n ∷ [])
needs_more t [] n all one = (one, tt)
needs_more t (q ∷ qs) n all one = (all.0, needs_more t qs n all.1 one)

needs_less : (t : Value) (needs : List Need) (n : Need) → MeetsNeeds t (needs ++ n ∷ []) → MeetsNeeds t needs × MeetsNeed t n
needs_less t [] n all = (tt, all.0)
needs_less t (q ∷ qs) n all = let rest = needs_less t qs n all.1 in ((all.0, rest.0), rest.1)

-- the pairs with one need more
pub more_pairs :
    (old new : Seen) (needs : List Need) (n : Need) → StartsWith old needs
    → ((t u : Value) → HasPair new t u ↔ (HasPair old t u × MeetsNeed u n))
    → (t u : Value) → HasPair new t u ↔ (IsStart (needs ++ n ∷ []) t × (u ≡ t))
more_pairs old new needs n starts exact t u = (
  (λ pair.
      let both = (exact t u).0 pair in
      let was = (starts.pairs t u).0 both.0 in
      let here : MeetsNeed t n = subst (λ (v : Value). MeetsNeed v n) was.1 both.1 in
      (record { is_tree = was.0.is_tree; met = needs_more t needs n was.0.met here }, was.1)),
  (λ (start, e).
      let parts = needs_less t needs n start.met in
      let before : IsStart needs t = record { is_tree = start.is_tree; met = parts.0 } in
      (exact t u).1 ((starts.pairs t u).1 (before, e), subst (λ (v : Value). MeetsNeed v n) (sym e) parts.1)),
)

-- what is met of all needs is met of the first ones
front : (t : Value) (needs : List Need) (i : ℕ) → MeetsNeeds t needs → MeetsNeeds t (take i needs)
front t [] zero all = tt
front t [] (suc i) all = tt
front t (q ∷ qs) zero all = tt
front t (q ∷ qs) (suc i) all = (all.0, front t qs i all.1)

-- where no pair is left behind the first needs, no tree has all
pub none_left :
    (s : Seen) (needs : List Need) (i : ℕ)
    → ((t u : Value) → HasPair s t u ↔ (IsStart (take i needs) t × (u ≡ t))) → (Alive s → ⊥)
    → (t : Value) → IsStart needs t → ⊥
none_left s needs i pairs dead t start =
    let before : IsStart (take i needs) t = record { is_tree = start.is_tree; met = front t needs i start.met } in
    let pair = (pairs t t).1 (before, refl) in
    dead (t, pair.0, pair.1)

pub not_both : (b : Bool) → b ≡ false → IsTrue b → ⊥
not_both true h k = cc
not_both false h k = cc
