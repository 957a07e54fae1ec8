-- Where a name is among rising names, or would go.
use Rattle.std.specs.Prelude.{◌≡◌, ℕ, zero, suc, ◌<◌, ◌≤◌, List, [], ◌∷◌, drop, length}
use Rattle.std.specs.declared.cmp.Ordering.TheVariants.{Less, Equal, Greater}
use Rattle.feature_trees.specs.declared.value.NamedValue.{NamedValue}
use Rattle.feature_trees.specs.Tree.{name_cmp}

-- the name comes after each of the first i
abbrev pub Passed : List NamedValue → List ℕ → ℕ → Type 0
Passed hs f zero = Unit {0}
Passed [] f (suc i) = ⊥
Passed (h ∷ hs) f (suc i) = (name_cmp f h.name ≡ Greater) × Passed hs f i

-- the first of these has that name
abbrev pub BeginsAt : List NamedValue → List ℕ → Type 0
BeginsAt [] f = ⊥
BeginsAt (h ∷ hs) f = name_cmp f h.name ≡ Equal

-- the name comes before the first of these, if there is one
abbrev pub BeginsAfter : List NamedValue → List ℕ → Type 0
BeginsAfter [] f = Unit {0}
BeginsAfter (h ∷ hs) f = name_cmp f h.name ≡ Less

-- the name is at place i
pub record IsAt (hs : List NamedValue) (f : List ℕ) (i : ℕ) : Type 0 where
  pub in_range : i < length hs
  pub passed : Passed hs f i
  pub here : BeginsAt (drop i hs) f

-- the name would go at place i
pub record IsGap (hs : List NamedValue) (f : List ℕ) (i : ℕ) : Type 0 where
  pub in_range : i ≤ length hs
  pub passed : Passed hs f i
  pub here : BeginsAfter (drop i hs) f
