-- The names of functions as a set.
use Rattle.std.specs.Prelude.{◌≡◌, ℕ, Bool, List, Vec}
use Rattle.std.specs.BTreeSet.{BTreeSet, contains_by}
use Rattle.std.specs.Ordering.{nat_cmp}
use Rattle.std.specs.Cmp.Lexicographic.{slice_cmp}
use Rattle.colis_syntax.specs.declared.def.Def.{Def}
use Rattle.colis_syntax.specs.WellFormed.{is_def}

module _ {A : Type 0} where
  -- whether the set has the name
  abbrev pub has_name : BTreeSet (Vec ℕ A) → List ℕ → Bool
  has_name names name = contains_by (λ key. slice_cmp nat_cmp name key.items) names

  -- the set has the names of these functions, and no others
  abbrev pub AreTheNames : List Def → BTreeSet (Vec ℕ A) → Type 0
  AreTheNames defs names = (name : List ℕ) → has_name names name ≡ is_def name defs
