-- Values with and without entries.
use Rattle.std.proofs.Common.{◌≡◌, ◌≢◌, ℕ, true, false, List, [], ◌∷◌, refl, sym, subst, ◌∙◌}
use Rattle.feature_trees.specs.declared.shape.Entry.{Entry}
use Rattle.feature_trees.specs.declared.value.Value.{Value}
use Rattle.feature_trees.specs.declared.value.Value.TheVariants.{Absent, Reg, Link, Special, Dir}
use Rattle.feature_trees.specs.View.{IsThere}
use Rattle.feature_trees.specs.Tree.{entry, find}
use Rattle.feature_trees.proofs.Kept.{value_there, find_first}
use Rattle.utility_calls.specs.Sights.{has_entry}

-- the first entry is there
first_there : (e : Entry) (es : List Entry) → find (e ∷ es) e.name ≢ Absent
first_there e es h = subst IsThere (sym (find_first e es) ∙ h) (value_there e.node)

-- what has no entry under any name has none
pub none_has : (v : Value) → ((f : List ℕ) → entry v f ≡ Absent) → has_entry v ≡ false
none_has Absent h = refl
none_has Reg h = refl
none_has (Link b) h = refl
none_has (Special s) h = refl
none_has (Dir []) h = refl
none_has (Dir (e ∷ es)) h = absurd (first_there e es (h e.name))

pub has_none : (v : Value) (f : List ℕ) → has_entry v ≡ false → entry v f ≡ Absent
has_none Absent f h = refl
has_none Reg f h = refl
has_none (Link b) f h = refl
has_none (Special s) f h = refl
has_none (Dir []) f h = refl
has_none (Dir (e ∷ es)) f h = absurd (cc)

pub some_has : (v : Value) (f : List ℕ) → entry v f ≢ Absent → has_entry v ≡ true
some_has Absent f h = absurd (h refl)
some_has Reg f h = absurd (h refl)
some_has (Link b) f h = absurd (h refl)
some_has (Special s) f h = absurd (h refl)
some_has (Dir []) f h = absurd (h refl)
some_has (Dir (e ∷ es)) f h = refl

pub has_some : (v : Value) → has_entry v ≡ true → (f : List ℕ) × (entry v f ≢ Absent)
has_some Absent h = absurd (cc)
has_some Reg h = absurd (cc)
has_some (Link b) h = absurd (cc)
has_some (Special s) h = absurd (cc)
has_some (Dir []) h = absurd (cc)
has_some (Dir (e ∷ es)) h = (e.name, first_there e es)
