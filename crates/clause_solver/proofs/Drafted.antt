-- The way through a case, from its first literal to its end.
use Rattle.std.proofs.Common.{◌≡◌, ◌≢◌, ℕ, ◌+◌, ◌-◌, ◌<◌, ◌≤◌, ◌↔◌, nat_lt, inl, inr, IsTrue, Bool, true, false, Some, None, List, [], ◌∷◌, length, take, drop, get_or, refl, sym, ap, ◌∙◌, arith, subst, Contains}
use Rattle.std.proofs.lemmas.List.{take_all}
use Rattle.std.proofs.lemmas.Bool.{ltb-true, ltb-false}
use Rattle.tree_clauses.specs.declared.case.Case.{Case}
use Rattle.tree_clauses.specs.declared.clause.Literal.{Literal}
use Rattle.tree_clauses.specs.declared.clause.Literal.TheVariants as L
use Rattle.tree_clauses.specs.declared.clause.Var.{Var}
use Rattle.tree_clauses.specs.Literals.{value_of_variable}
use Rattle.tree_clauses.specs.Plain.{IsPlainFrom, numbers_below}
use Rattle.tree_clauses.proofs.Below.{contains_below, below_contained}
use Rattle.tree_clauses.specs.Solved.{subject}
use Rattle.clause_solver.specs.declared.drafts.Draft.{Draft}
use Rattle.clause_solver.specs.declared.lists.Lists.{Lists}
use Rattle.clause_solver.specs.declared.variable.Variable.{Variable}
use Rattle.clause_solver.specs.Drafts.{place_in, IsPlaced, Agrees, AreGiven, IsPut, IsSteady, Leaves, Goes, CanGo, GoesOn, IsDrafted}
use Rattle.clause_solver.specs.Adds.{given_at, AllInside}
use Rattle.clause_solver.specs.Decided.{AreDecided}
use Rattle.clause_solver.proofs.Names.{last_cases}
use Rattle.clause_solver.proofs.PlainViews.{view, SimilarView, is_same, is_replaced}
use Rattle.tree_clauses.proofs.Passing.{nothing_left}

-- ---- the places of given variables

-- the first so many of them have their places
pub record AreGivenTo (whole : Lists) (given : List Var) (n : ℕ) (draft : Draft) : Type 0 where
  pub same : draft.lists ≡ whole
  pub placed : (i : ℕ) → i < n → place_in draft i ≡ Some (given_at given i)
  pub others : (i : ℕ) → n ≤ i → place_in draft i ≡ None

pub given_more : (whole : Lists) (given : List Var) (n y : ℕ) (old new : Draft) → AreGivenTo whole given n old → IsPut old new n y → y ≡ given_at given n → AreGivenTo whole given (n + 1) new
given_more whole given n y old new before put is = record {
  same = put.lists ∙ before.same;
  placed = λ i w. elim (last_cases i n w) [
    | inl low ↦ let ne : i ≢ n = λ e. omega (arith, low, e) in put.other i ne ∙ before.placed i low
    | inr e ↦ rw (e, ← is) put.here
  ];
  others = λ i le. let ne : i ≢ n = λ e. omega (arith, le, e) in put.other i ne ∙ before.others i (omega (arith, le));
}

-- ---- the way

-- on the way: what is left of a case to be passed
abbrev pub Going : List Variable → List Var → Case → List Literal → Draft → Type 0
Going old given made rest draft =
    (after : List ℕ) × ((i : ℕ) → Contains after i ↔ (i < length given + made.locals)) × Goes old given made.literals after rest draft

module _ (old : List Variable) (given : List Var) (made : Case) (plain : IsPlainFrom (length given) made) (draft : Draft) (vars : draft.lists.vars ≡ old) (start : AreGiven given (place_in draft)) (inside : AllInside given (length old)) where
  at_start : (x n : ℕ) → place_in draft x ≡ Some n → (x < length given) × (n ≡ given_at given x)
  at_start x n e = by (nat_lt x (length given)) refl
    where
      by : (b : Bool) → nat_lt x (length given) ≡ b → (x < length given) × (n ≡ given_at given x)
      by true t =
          let low = ltb-true x (length given) t in
          let q : Some n ≡ Some (given_at given x) = sym e ∙ start.placed x low in (low, cc)
      by false t =
          let bad : Some n ≡ None = sym e ∙ start.others x (ltb-false x (length given) t) in absurd (cc)

  begin_leaves : Leaves old given [] (place_in draft) draft.lists.vars
  begin_leaves = rw vars (record {
    more = omega arith;
    first = λ f. f;
    start = start.placed;
    down = λ g l s fits. let whole : take (length old) g ≡ g = take_all (length old) g (omega (arith, l)) in (rw whole fits, λ h hs a. tt);
    up = λ g h l s fits hs e m.
        let a : Agrees (place_in draft) g h = λ x n p. let q = at_start x n p in e x q.0 ∙ ap (value_of_variable g) (sym q.1) in
        (g, l, s, fits, take_all (length old) g (omega (arith, l)), a);
  })

  placed_low : (x : ℕ) → IsPlaced (place_in draft x) → x < length given
  placed_low x p = by (nat_lt x (length given)) refl
    where
      by : (b : Bool) → nat_lt x (length given) ≡ b → x < length given
      by true t = ltb-true x (length given) t
      by false t = let bad : ⊥ = rw (start.others x (ltb-false x (length given) t)) at p in absurd bad

  begin_placed : (x : ℕ) → Contains (numbers_below (length given)) x ↔ IsPlaced (place_in draft x)
  begin_placed x = (
    λ c. rw (start.placed x (below_contained (length given) x c)) tt,
    λ p. contains_below (length given) x (placed_low x p),
  )

  pub begins : AreDecided draft.lists → Going old given made made.literals draft
  begins decided = (
    plain.known,
    plain.variables,
    record {
      before = [];
      known = numbers_below (length given);
      order = plain.order;
      split = λ h. (λ m. (tt, m), λ q. q.1);
      placed = begin_placed;
      leaves = begin_leaves;
      steady = record { decided = decided; inside = λ x n e. let q = at_start x n e in let w = inside x q.0 in rw (vars, q.1) w };
    },
  )

-- what is left is its first literal and the others
rest_is : (literal : Literal) (left : List Literal) → take (length (literal ∷ left) - 1) (drop 1 (literal ∷ left)) ≡ left
rest_is literal left = take_all (length (literal ∷ left) - 1) left (omega arith)

pub first_and_rest : (left : List Literal) (n : ℕ) (literal : Literal) → n ≡ length left → 1 ≤ length left → literal ≡ get_or left 0 literal → left ≡ literal ∷ take (n - 1) (drop 1 left)
first_and_rest [] n literal same w is = absurd (omega arith)
first_and_rest (l ∷ ls) n literal same w is =
    let e : take (n - 1) (drop 1 (l ∷ ls)) ≡ ls = ap (λ k. take (k - 1) (drop 1 (l ∷ ls))) same ∙ rest_is l ls in
    let head : literal ≡ l = is in
    rw (e, head) refl

pub goes_on : (old : List Variable) (given : List Var) (made : Case) (left rest more : List Literal) (literal : Literal) (a b : Draft) → left ≡ literal ∷ rest → Going old given made left a → GoesOn a (literal ∷ rest) b more → Going old given made more b
goes_on old given made left rest more literal a b e g on =
    let here : Goes old given made.literals g.0 (literal ∷ rest) a = subst (λ l. Goes old given made.literals g.0 l a) e g.2 in
    (g.0, g.1, on old given made.literals g.0 here)

pub can_go : (old : List Variable) (given : List Var) (made : Case) (left rest : List Literal) (literal : Literal) (a : Draft) → left ≡ literal ∷ rest → Going old given made left a → CanGo a (literal ∷ rest)
can_go old given made left rest literal a e g =
    (old, given, made.literals, g.0, subst (λ l. Goes old given made.literals g.0 l a) e g.2)

pub ends : (old : List Variable) (given : List Var) (made : Case) (left : List Literal) (draft : Draft) → length left < 1 → Going old given made left draft → IsDrafted old given made draft
ends old given made left draft w g =
    let goes : Goes old given made.literals g.0 [] draft = subst (λ l. Goes old given made.literals g.0 l draft) (nothing_left left w) g.2 in
    let all : goes.known ≡ g.0 = view goes.order in
    let l = goes.leaves in
    record {
      leaves = record {
        more = l.more;
        first = l.first;
        start = l.start;
        down = λ h long s fits. let parts = l.down h long s fits in (parts.0, λ k ks a. (goes.split k).1 (parts.1 k ks a, tt));
        up = λ h k long s fits ks e m. l.up h k long s fits ks e ((goes.split k).0 m).0;
      };
      placed = λ x. (
        λ p. (g.1 x).0 (rw all at ((goes.placed x).1 p)),
        λ low. (goes.placed x).0 (rw all ((g.1 x).1 low)),
      );
      steady = goes.steady;
    }

-- ---- what a draft is ready for

module _ (a : Draft) (rest : List Literal) where
  pub is_steady : CanGo a rest → IsSteady a
  is_steady g = g.4.steady

  pub entry_placed : (x : Var) (f : List ℕ) (y : Var) → CanGo a (L.Entry x f y ∷ rest) → IsPlaced (place_in a x.0)
  entry_placed x f y g = (g.4.placed x.0).0 (view g.4.order).0

  pub fence_placed : (x : Var) (names : List (List ℕ)) → CanGo a (L.Fence x names ∷ rest) → IsPlaced (place_in a x.0)
  fence_placed x names g = (g.4.placed x.0).0 (view g.4.order).1

  pub fence_is : (x : Var) (names : List (List ℕ)) → CanGo a (L.Fence x names ∷ rest) → names ≡ []
  fence_is x names g = (view g.4.order).0

  pub filled_placed : (x : Var) → CanGo a (L.NotEmpty x ∷ rest) → IsPlaced (place_in a x.0)
  filled_placed x g = (g.4.placed x.0).0 (view g.4.order).0

  pub similar_placed : (y : Var) (names : List (List ℕ)) (x : Var) → CanGo a (L.Similar y names x ∷ rest) → IsPlaced (place_in a x.0)
  similar_placed y names x g = (g.4.placed x.0).0 (by_view (view g.4.order))
    where
      by_view : {before : List Literal} {known after : List ℕ} → SimilarView before known y names x rest after → Contains known x.0
      by_view (is_same e kx none r) = kx
      by_view (is_replaced f z more e begins kx kz none r) = kx

module _ (a : Draft) (y x : Var) where
  -- behind a directory with a replaced entry stands that entry
  pub similar_rest : (names : List (List ℕ)) (rest : List Literal) → 1 ≤ length names → length rest < 1 → ¬ (CanGo a (L.Similar y names x ∷ rest))
  similar_rest [] rest some none g = absurd (omega arith)
  similar_rest (f ∷ fs) (l ∷ ls) some none g = absurd (omega arith)
  similar_rest (f ∷ fs) [] some none g = by_view (view g.4.order)
    where
      by_view : {before : List Literal} {known after : List ℕ} → SimilarView before known y (f ∷ fs) x [] after → ⊥
      by_view (is_same e kx n r) = let bad : f ∷ fs ≡ [] = e in cc
      by_view (is_replaced h z more e begins kx kz n r) = let bad : [] ≡ L.Entry y h z ∷ more = begins in cc

  pub similar_value : (names : List (List ℕ)) (rest : List Literal) (literal : Literal) → 1 ≤ length names → 1 ≤ length rest → literal ≡ get_or rest 0 literal → CanGo a (L.Similar y names x ∷ rest) → IsPlaced (place_in a (subject literal))
  similar_value [] rest literal some more is g = absurd (omega arith)
  similar_value (f ∷ fs) [] literal some more is g = absurd (omega arith)
  similar_value (f ∷ fs) (l ∷ ls) literal some more is g = (g.4.placed (subject literal)).0 (by_view (view g.4.order))
    where
      by_view : {before : List Literal} {known after : List ℕ} → SimilarView before known y (f ∷ fs) x (l ∷ ls) after → Contains known (subject literal)
      by_view (is_same e kx n r) = let bad : f ∷ fs ≡ [] = e in absurd (cc)
      by_view (is_replaced h z rest e begins kx kz n r) =
          let both : l ∷ ls ≡ L.Entry y h z ∷ rest = begins in
          let head : l ≡ L.Entry y h z = cc in
          let here : literal ≡ L.Entry y h z = is ∙ head in
          rw here kz

pub first_name : (names : List (List ℕ)) (f : List ℕ) → 1 ≤ length names → f ≡ get_or names 0 f → names ≡ f ∷ drop 1 names
first_name [] f some is = absurd (omega arith)
first_name (g ∷ gs) f some is = ap (λ h. h ∷ gs) (sym is)

pub no_name : (names : List (List ℕ)) → length names < 1 → names ≡ []
no_name [] w = refl
no_name (f ∷ fs) w = absurd (omega arith)

pub not_so : (b : Bool) (P : Type 0) → IsTrue b ↔ P → b ≡ false → ¬ P
not_so b P both e p = let t : b ≡ true = both.1 p in let bad : true ≡ false = sym t ∙ e in cc
