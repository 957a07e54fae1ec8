-- Names in the order of their bytes: a list that rises is determined by its names, and what a sort leaves rises once
-- each name stands once.
use Rattle.std.proofs.Common.{◌≡◌, ◌≢◌, ℕ, zero, suc, ◌+◌, ◌<◌, ◌↔◌, ◌⊎◌, inl, inr, Bool, true, false, if◌then◌else◌, List, [], ◌∷◌, length, map, get_or, refl, sym, ap, subst, ◌∙◌, arith, Bor}
use Rattle.std.specs.List.{Contains}
use Rattle.std.specs.List.Sorted.{IsPermutation, IsSorted}
use Rattle.std.specs.Cmp.Lexicographic.{slice_cmp}
use Rattle.std.proofs.lemmas.List.Sorted.{IsPermutation-map, IsPermutation-sym, Contains-permutation}
use Rattle.std.specs.Str.{bytes_eq}
use Rattle.std.specs.declared.cmp.Ordering.{Ordering}
use Rattle.std.specs.declared.cmp.Ordering.TheVariants.{Less, Equal, Greater}
use Rattle.std.specs.Ordering.{is_lt, nat_cmp}
use Rattle.std.proofs.lemmas.Cmp.{tied_itself}
use Rattle.std.proofs.lemmas.Slice.Eq.{bytes_eq-Decides}
use Rattle.feature_trees.specs.Tree.{name_cmp}
use Rattle.feature_trees.proofs.Laws.{ord, flip_less}
use Rattle.feature_trees.proofs.Found.{same_name}
use Rattle.tree_clauses.specs.MadeValues.{once}
use Rattle.tree_clauses.specs.Solved.{Rising, IsInOrder}

-- what a list has

pub contains_head : {X : Type 0} (x : X) (xs : List X) → Contains (x ∷ xs) x
contains_head x xs = (0, omega arith, refl)

pub contains_tail : {X : Type 0} (x y : X) (xs : List X) → Contains xs y → Contains (x ∷ xs) y
contains_tail x y xs c = (suc c.0, (let w = c.1 in omega arith), c.2)

at_cases : {X : Type 0} (x y : X) (xs : List X) (k : ℕ) → k < length (x ∷ xs) → get_or (x ∷ xs) k y ≡ y → (x ≡ y) ⊎ Contains xs y
at_cases x y xs zero w e = inl e
at_cases x y xs (suc k) w e = inr (k, omega arith, e)

pub contains_cases : {X : Type 0} (x y : X) (xs : List X) → Contains (x ∷ xs) y → (x ≡ y) ⊎ Contains xs y
contains_cases x y xs c = at_cases x y xs c.0 c.1 c.2

pub contains_nothing : {X : Type 0} (y : X) → ¬ (Contains [] y)
contains_nothing y c = let w = c.1 in absurd (omega arith)

-- lists that rise

not_below_itself : {A : Type 0} (f : List ℕ) → name_cmp f f ≡ Less → A
not_below_itself f e = let t = tied_itself ord f in let bad : Less ≡ Equal = sym e ∙ t in cc

both_below : {A : Type 0} (f g : List ℕ) → name_cmp f g ≡ Less → name_cmp g f ≡ Less → A
both_below f g a b = not_below_itself f (ord.trans f g f a b)

pub tail_rises : (f : List ℕ) (fs : List (List ℕ)) → Rising (f ∷ fs) → Rising fs
tail_rises f [] r = tt
tail_rises f (g ∷ gs) r = r.1

pub all_above : (f : List ℕ) (fs : List (List ℕ)) → Rising (f ∷ fs) → (g : List ℕ) → Contains fs g → name_cmp f g ≡ Less
all_above f [] r g c = absurd (contains_nothing g c)
all_above f (h ∷ hs) r g c = elim (contains_cases h g hs c) [
  | inl e ↦ subst (λ x. name_cmp f x ≡ Less) e r.0
  | inr more ↦ ord.trans f h g r.0 (all_above h hs r.1 g more)
]

-- the names of two lists are the same
abbrev pub SameNames : List (List ℕ) → List (List ℕ) → Type 0
SameNames fs gs = (f : List ℕ) → Contains fs f ↔ Contains gs f

firsts_same : (f g : List ℕ) (fs gs : List (List ℕ)) → Rising (f ∷ fs) → Rising (g ∷ gs) → SameNames (f ∷ fs) (g ∷ gs) → f ≡ g
firsts_same f g fs gs r s same = step (name_cmp f g) refl
  where
    step : (o : Ordering) → name_cmp f g ≡ o → f ≡ g
    step Less e = elim (contains_cases g f gs ((same f).0 (contains_head f fs))) [
      | inl q ↦ sym q
      | inr more ↦ both_below f g e (all_above g gs s f more)
    ]
    step Equal e = same_name f g e
    step Greater e = elim (contains_cases f g fs ((same g).1 (contains_head g gs))) [
      | inl q ↦ q
      | inr more ↦ both_below g f (flip_less f g e) (all_above f fs r g more)
    ]

rest_has : (f : List ℕ) (fs gs : List (List ℕ)) → Rising (f ∷ fs) → (h : List ℕ) → (Contains (f ∷ fs) h → Contains (f ∷ gs) h) → Contains fs h → Contains gs h
rest_has f fs gs r h go c = elim (contains_cases f h gs (go (contains_tail f h fs c))) [
  | inl e ↦ not_below_itself f (subst (λ x. name_cmp f x ≡ Less) (sym e) (all_above f fs r h c))
  | inr more ↦ more
]

-- one list at most rises with these names
pub one_order : (fs gs : List (List ℕ)) → Rising fs → Rising gs → SameNames fs gs → fs ≡ gs
one_order [] [] r s same = refl
one_order [] (g ∷ gs) r s same = absurd (contains_nothing g ((same g).1 (contains_head g gs)))
one_order (f ∷ fs) [] r s same = absurd (contains_nothing f ((same f).0 (contains_head f fs)))
one_order (f ∷ fs) (g ∷ gs) r s same =
    let e = firsts_same f g fs gs r s same in
    let s' : Rising (f ∷ gs) = subst (λ x. Rising (x ∷ gs)) (sym e) s in
    let same' : SameNames (f ∷ fs) (f ∷ gs) = subst (λ x. SameNames (f ∷ fs) (x ∷ gs)) (sym e) same in
    let rest = one_order fs gs (tail_rises f fs r) (tail_rises f gs s')
    (λ h. (rest_has f fs gs r h (same' h).0, rest_has f gs fs s' h (same' h).1)) in
    λ i. e i ∷ rest i

pub same_order : (names fs gs : List (List ℕ)) → IsInOrder names fs → IsInOrder names gs → fs ≡ gs
same_order names fs gs a b = one_order fs gs a.rises b.rises (λ f. (λ c. (b.same f).0 ((a.same f).1 c), λ c. (a.same f).0 ((b.same f).1 c)))

-- what a sort leaves

-- no name comes before the one in front of it
abbrev pub NonFalling : List (List ℕ) → Type 0
NonFalling [] = Unit {0}
NonFalling (f ∷ []) = Unit {0}
NonFalling (f ∷ g ∷ rest) = (is_lt (name_cmp g f) ≡ false) × NonFalling (g ∷ rest)

falls_not : (f g : List ℕ) → is_lt (name_cmp g f) ≡ false → f ≢ g → name_cmp f g ≡ Less
falls_not f g e ne = step (name_cmp f g) refl
  where
    step : (o : Ordering) → name_cmp f g ≡ o → name_cmp f g ≡ Less
    step Less q = q
    step Equal q = absurd (ne (same_name f g q))
    step Greater q = let low = flip_less f g q in let bad : true ≡ false = ap is_lt (sym low) ∙ e in cc

rest_falls_not : (f : List ℕ) (fs : List (List ℕ)) → NonFalling (f ∷ fs) → NonFalling fs
rest_falls_not f [] h = tt
rest_falls_not f (g ∷ gs) h = h.1

-- below every one of these
abbrev Below : List ℕ → List (List ℕ) → Type 0
Below f [] = Unit {0}
Below f (g ∷ gs) = name_cmp f g ≡ Less

rises_from : (f : List ℕ) (fs : List (List ℕ)) → Below f fs → Rising fs → Rising (f ∷ fs)
rises_from f [] b r = tt
rises_from f (g ∷ gs) b r = (b, r)

differs : (f g : List ℕ) → bytes_eq f g ≡ false → f ≢ g
differs f g e same = let t = (bytes_eq-Decides f g).1 same in let bad : true ≡ false = sym t ∙ e in cc

-- the first name that stays is the first of all
below_once : (f g : List ℕ) (rest : List (List ℕ)) → name_cmp f g ≡ Less → NonFalling (g ∷ rest) → Below f (once (g ∷ rest))
below_once f g [] lt h = lt
below_once f g (k ∷ rest) lt h = step (λ low. below_once f k rest low h.1) (bytes_eq g k) refl
  where
    step : (name_cmp f k ≡ Less → Below f (once (k ∷ rest))) → (b : Bool) → bytes_eq g k ≡ b → Below f (if b then once (k ∷ rest) else g ∷ once (k ∷ rest))
    step more true e = more (subst (λ x. name_cmp f x ≡ Less) ((bytes_eq-Decides g k).0 e) lt)
    step more false e = lt

pub once_rises : (fs : List (List ℕ)) → NonFalling fs → Rising (once fs)
once_rises [] h = tt
once_rises (f ∷ []) h = tt
once_rises (f ∷ g ∷ rest) h = step (once_rises (g ∷ rest) h.1) (bytes_eq f g) refl
  where
    step : Rising (once (g ∷ rest)) → (b : Bool) → bytes_eq f g ≡ b → Rising (if b then once (g ∷ rest) else f ∷ once (g ∷ rest))
    step more true e = more
    step more false e = rises_from f (once (g ∷ rest)) (below_once f g rest (falls_not f g h.0 (differs f g e)) h.1) more

pub once_same : (fs : List (List ℕ)) → SameNames fs (once fs)
once_same [] f = (λ c. c, λ c. c)
once_same (f ∷ []) h = (λ c. c, λ c. c)
once_same (f ∷ g ∷ rest) h = step (bytes_eq f g) refl (once_same (g ∷ rest) h)
  where
    step : (b : Bool) → bytes_eq f g ≡ b → Contains (g ∷ rest) h ↔ Contains (once (g ∷ rest)) h → Contains (f ∷ g ∷ rest) h ↔ Contains (if b then once (g ∷ rest) else f ∷ once (g ∷ rest)) h
    step true e more = (
      λ c. elim (contains_cases f h (g ∷ rest) c) [
        | inl q ↦ more.0 (subst (Contains (g ∷ rest)) (sym ((bytes_eq-Decides f g).0 e) ∙ q) (contains_head g rest))
        | inr d ↦ more.0 d
      ],
      λ c. contains_tail f h (g ∷ rest) (more.1 c),
    )
    step false e more = (
      λ c. elim (contains_cases f h (g ∷ rest) c) [
        | inl q ↦ subst (Contains (f ∷ once (g ∷ rest))) q (contains_head f (once (g ∷ rest)))
        | inr d ↦ contains_tail f h (once (g ∷ rest)) (more.0 d)
      ],
      λ c. elim (contains_cases f h (once (g ∷ rest)) c) [
        | inl q ↦ subst (Contains (f ∷ g ∷ rest)) q (contains_head f (g ∷ rest))
        | inr d ↦ contains_tail f h (g ∷ rest) (more.1 d)
      ],
    )

-- the bytes of lent names
abbrev pub lent : List (Bor (List ℕ)) → List (List ℕ)
lent fs = map (λ f. f.now) fs

abbrev LentSorted : List (Bor (List ℕ)) → Type 0
LentSorted fs = IsSorted (λ f g. slice_cmp nat_cmp f.now g.now) fs

falls_nowhere : (fs : List (Bor (List ℕ))) → LentSorted fs → NonFalling (lent fs)
falls_nowhere [] s = tt
falls_nowhere (f ∷ []) s = tt
falls_nowhere (f ∷ g ∷ rest) s = (
  s 0 f (omega arith) (omega arith),
  falls_nowhere (g ∷ rest) (λ k d low w.
      let e : suc k + 1 ≡ suc (k + 1) = omega arith in
      let h = s (suc k) d (omega arith) (omega arith) in
      rw e at h),
)

-- names that are sorted, and then stand once each, are in order
pub sorted_in_order : (names : List (List ℕ)) (all sorted kept : List (Bor (List ℕ))) → lent all ≡ names → IsPermutation all sorted → LentSorted sorted → lent kept ≡ once (lent sorted) → IsInOrder names (lent kept)
sorted_in_order names all sorted kept e p s k =
    let moved = IsPermutation-map (λ (f : Bor (List ℕ)). f.now) all sorted p in
    let back = IsPermutation-sym (lent all) (lent sorted) moved in
    let order : IsInOrder (lent all) (once (lent sorted)) = record {
      rises = once_rises (lent sorted) (falls_nowhere sorted s);
      same = λ f. (
        λ c. (once_same (lent sorted) f).0 (Contains-permutation (lent all) (lent sorted) f moved c),
        λ c. Contains-permutation (lent sorted) (lent all) f back ((once_same (lent sorted) f).1 c),
      );
    } in
    subst (λ ns. IsInOrder ns (lent kept)) e (subst (IsInOrder (lent all)) (sym k) order)
