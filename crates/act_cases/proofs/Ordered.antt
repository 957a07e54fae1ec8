-- The literals of a case are in plain order: each makes the next variable known.
use Rattle.std.proofs.Common.{◌≡◌, ℕ, zero, suc, ◌+◌, ◌<◌, ◌≤◌, ◌⊎◌, inl, inr, List, [], ◌∷◌, ◌++◌, length, refl, sym, ap, subst, arith, append_assoc}
use Rattle.std.specs.Prelude.{slice_index_or}
use Rattle.std.specs.List.{Contains}
use Rattle.feature_trees.specs.declared.kind.Kind.TheVariants as kind
use Rattle.feature_trees.specs.declared.kind.Kinds.{Kinds}
use Rattle.feature_trees.specs.Kinds.{of}
use Rattle.tree_clauses.proofs.KindSets.{of_dir}
use Rattle.tree_clauses.specs.declared.clause.Literal.{Literal}
use Rattle.tree_clauses.specs.declared.clause.Literal.TheVariants.{Entry, Kind, Similar}
use Rattle.act_cases.specs.declared.looks.Ways.{Ways}
use Rattle.act_cases.specs.Looks.{var, kinds_from, way_literals}
use Rattle.act_cases.specs.Puts.{put_literals, root_of}
use Rattle.act_cases.specs.Tables.{through}
use Rattle.tree_clauses.specs.Plain.{IsOneOf, AreNoneOrDir, IsLimited, PlainOrder, entry, replaced, kinds}

-- ---- the first so many variables, from the last on

abbrev pub firsts : ℕ → List ℕ
firsts zero = []
firsts (suc n) = n ∷ firsts n

contains_later : (x y : ℕ) (xs : List ℕ) → Contains xs x → Contains (y ∷ xs) x
contains_later x y xs h = (suc h.0, let w = h.1 in omega arith, h.2)

contains_by : (i n : ℕ) → (n ≡ i) ⊎ (i < n) → (i < n → Contains (firsts n) i) → Contains (n ∷ firsts n) i
contains_by i n (inl e) more = (0, omega arith, e)
contains_by i n (inr lt) more = contains_later i n (firsts n) (more lt)

same_or_below : (i n : ℕ) → i < suc n → (n ≡ i) ⊎ (i < n)
same_or_below zero zero lt = inl refl
same_or_below zero (suc n) lt = inr (omega arith)
same_or_below (suc i) zero lt = absurd (omega arith)
same_or_below (suc i) (suc n) lt = elim (same_or_below i n (omega arith)) [ inl e ↦ inl (ap suc e) | inr h ↦ inr (omega arith) ]

pub below_contains : (n i : ℕ) → i < n → Contains (firsts n) i
below_contains zero i lt = absurd (omega arith)
below_contains (suc n) i lt = contains_by i n (same_or_below i n lt) (below_contains n i)

below_at : (n k i : ℕ) → k < length (firsts n) → slice_index_or (firsts n) k i ≡ i → i < n
below_at zero k i lt e = absurd (omega arith)
below_at (suc n) zero i lt e = omega (arith, e)
below_at (suc n) (suc k) i lt e = let h = below_at n k i (omega arith) e in omega (arith, h)

pub contains_below : (n i : ℕ) → Contains (firsts n) i → i < n
contains_below n i h = below_at n h.0 i h.1 h.2

pub not_yet : (n i : ℕ) → n ≤ i → ¬ (Contains (firsts n) i)
not_yet n i le h = let lt = contains_below n i h in absurd (omega (arith, lt))

-- ---- the literals before

abbrev pub Within : List Literal → List Literal → Type 0
Within a b = (x : Literal) → IsOneOf a x → IsOneOf b x

-- each variable along the names is limited to nothing and a directory
abbrev pub AllLimited : List Literal → ℕ → ℕ → List (List ℕ) → Type 0
AllLimited b x y [] = Unit {0}
AllLimited b x y (f ∷ rest) = IsLimited b (var x) × AllLimited b y (y + 1) rest

pub limited_within : (a b : List Literal) (x y : ℕ) (names : List (List ℕ)) → Within a b → AllLimited a x y names → AllLimited b x y names
limited_within a b x y [] w h = tt
limited_within a b x y (f ∷ rest) w h = ((h.0.0, w _ h.0.1, h.0.2), limited_within a b y (y + 1) rest w h.1)

-- each variable along the names has its kinds
abbrev pub AllKinds : List Literal → Ways → ℕ → ℕ → List (List ℕ) → Type 0
AllKinds b w x y [] = IsOneOf b (Kind (var x) w.last)
AllKinds b w x y (f ∷ rest) = IsOneOf b (Kind (var x) (kinds_from w (f ∷ rest))) × AllKinds b w y (y + 1) rest

first_kinds : (a b : List Literal) (w : Ways) (x y : ℕ) (f : List ℕ) (rest : List (List ℕ)) → IsOneOf b (Kind (var x) (kinds_from w (f ∷ rest))) → AllKinds b w y (y + 1) rest → AllKinds b w x y (f ∷ rest)
first_kinds a b w x y f rest h more = (h, more)

dir_kinds : AreNoneOrDir (of kind.Dir)
dir_kinds k h = inr (of_dir k h)

through_dirs : (ks : Kinds) (f : List ℕ) (rest : List (List ℕ)) → kinds_from (through ks) (f ∷ rest) ≡ of kind.Dir
through_dirs ks f [] = refl
through_dirs ks f (g ∷ rest) = refl

-- directories all the way are limited
pub through_limited : (b : List Literal) (ks : Kinds) (x y : ℕ) (names : List (List ℕ)) → AllKinds b (through ks) x y names → AllLimited b x y names
through_limited b ks x y [] h = tt
through_limited b ks x y (f ∷ rest) h =
    ((of kind.Dir, subst (λ s. IsOneOf b (Kind (var x) s)) (through_dirs ks f rest) h.0, dir_kinds), through_limited b ks y (y + 1) rest h.1)

-- ---- looking

-- the look from the variable x makes y and those behind it known
pub way_order : (w : Ways) (x y n : ℕ) (names : List (List ℕ)) (b rest : List Literal) (after : List ℕ) → n ≡ y → x < n → IsOneOf b (Kind (var x) (kinds_from w names))
    → ((m : ℕ) (b' : List Literal) → m ≡ y + length names → Within b b' → AllKinds b' w x y names → PlainOrder b' (firsts m) rest after)
    → PlainOrder b (firsts n) (way_literals w x y names ++ rest) after
way_order w x y n [] b rest after e lt k next = next n b (omega (arith, e)) (λ l h. h) k
way_order w x y n (f ∷ names) b rest after e lt k next =
    let more : PlainOrder (Kind (var y) (kinds_from w names) ∷ Entry (var x) f (var y) ∷ b) (firsts (suc n)) (way_literals w y (y + 1) names ++ rest) after =
    way_order w y (y + 1) (suc n) names (Kind (var y) (kinds_from w names) ∷ Entry (var x) f (var y) ∷ b) rest after (omega (arith, e)) (omega (arith, e)) (inl refl)
    (λ m b' em within all. next m b' (omega (arith, em)) (λ l h. within l (inr (inr h))) (within _ (inr (inr k)), all)) in
    entry (var x) f (var y) (below_contains n x lt) (not_yet n y (omega (arith, e)))
    (kinds (var y) (kinds_from w names)
    (0, omega arith, refl)
    (subst (λ i. PlainOrder (Kind (var y) (kinds_from w names) ∷ Entry (var x) f (var y) ∷ b) (i ∷ firsts n) (way_literals w y (y + 1) names ++ rest) after) e more))

-- ---- putting

-- the variables of the entries are known
abbrev pub AllBelow : ℕ → ℕ → ℕ → List (List ℕ) → Type 0
AllBelow n x y [] = Unit {0}
AllBelow n x y (f ∷ rest) = (x < n) × AllBelow n y (y + 1) rest

pub all_below : (n x y : ℕ) (names : List (List ℕ)) → x < n → y + length names ≤ n → AllBelow n x y names
all_below n x y [] lt le = tt
all_below n x y (f ∷ rest) lt le = (lt, all_below n y (y + 1) rest (omega arith) (omega arith))

root_below : (names : List (List ℕ)) (z r m : ℕ) → z < r → m ≡ r + length names → root_of names z r < m
root_below [] z r m lt e = omega arith
root_below (f ∷ rest) z r m lt e = omega arith

pub put_order : (x y z r n : ℕ) (names : List (List ℕ)) (b rest : List Literal) (after : List ℕ) → n ≡ r → z < n → AllBelow n x y names → AllLimited b x y names
    → ((m : ℕ) (b' : List Literal) → m ≡ r + length names → Within b b' → PlainOrder b' (firsts m) rest after)
    → PlainOrder b (firsts n) (put_literals x y names z r ++ rest) after
put_order x y z r n [] b rest after e lt below limited next = next n b (omega (arith, e)) (λ l h. h)
put_order x y z r n (f ∷ names) b rest after e lt below limited next =
    let top = Similar (var (r + length names)) (f ∷ []) (var x) in
    let held = Entry (var (r + length names)) f (var (root_of names z r)) in
    subst (λ (l : List Literal). PlainOrder b (firsts n) l after) (sym (append_assoc (put_literals y (y + 1) names z r) (top ∷ held ∷ []) rest))
    (put_order y (y + 1) z r n names b (top ∷ held ∷ rest) after e lt below.1 limited.1
    (λ m b' em within.
    replaced (var (r + length names)) f (var x) (var (root_of names z r)) (below_contains m x (omega (arith, em, e, below.0))) (not_yet m (r + length names) (omega (arith, em)))
    (below_contains m (root_of names z r) (root_below names z r m (omega (arith, e)) em)) (limited.0.0, within _ limited.0.1, limited.0.2)
    (subst (λ i. PlainOrder (held ∷ top ∷ b') (i ∷ firsts m) rest after) em
    (next (suc m) (held ∷ top ∷ b') (omega (arith, em)) (λ l h. inr (inr (within l h)))))))
