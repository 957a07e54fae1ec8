-- Entries of one directory that stand in another as well.
use Rattle.std.specs.Prelude.{◌≡◌, ◌≢◌, ℕ, Bool, IsTrue, List}
use Rattle.feature_trees.specs.declared.shape.Entry.{Entry}
use Rattle.feature_trees.specs.declared.value.Value.{Value}
use Rattle.feature_trees.specs.declared.value.Value.TheVariants.{Absent}
use Rattle.feature_trees.specs.Tree.{entry, find}

-- what stands under a name but these, told by a test, has something of its name in another value
abbrev pub IsWithin : Value → (List ℕ → Bool) → Value → Type 0
IsWithin v names other = (f : List ℕ) → ¬ (IsTrue (names f)) → entry other f ≡ Absent → entry v f ≡ Absent

-- the same, of entries
abbrev pub AreWithin : List Entry → (List ℕ → Bool) → Value → Type 0
AreWithin es names other = (f : List ℕ) → ¬ (IsTrue (names f)) → entry other f ≡ Absent → find es f ≡ Absent

-- what stands under a name but these is the entry of its name in another value
abbrev pub IsIn : Value → (List ℕ → Bool) → Value → Type 0
IsIn v names other = (f : List ℕ) → ¬ (IsTrue (names f)) → entry v f ≢ Absent → entry other f ≡ entry v f

-- the same, of entries
abbrev pub AreIn : List Entry → (List ℕ → Bool) → Value → Type 0
AreIn es names other = (f : List ℕ) → ¬ (IsTrue (names f)) → find es f ≢ Absent → entry other f ≡ find es f
