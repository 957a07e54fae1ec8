-- How far a run of items without `*` goes along a string: what the functions that match say to each other.
use Rattle.std.specs.Prelude.{◌≡◌, ℕ, suc, zero, ◌<◌, ◌≤◌, Bool, true, false, List, [], ◌∷◌, length, drop}
use Rattle.shell_words.specs.declared.pattern.Item.{Item}
use Rattle.shell_words.specs.declared.pattern.Item.TheVariants.{Byte, Any, Star, Set}
use Rattle.shell_words.specs.declared.run.Reach.{Reach}
use Rattle.shell_words.specs.declared.run.Reach.TheVariants.{UpToStar, Whole, Nowhere}
use Rattle.shell_words.specs.Patterns.{allows, Matches}

-- whether an item is `*`
abbrev pub is_star : Item → Bool
is_star (Byte c) = false
is_star Any = false
is_star Star = true
is_star (Set negated letters) = false

-- each of the first n items stands for the byte at its place
abbrev pub Stands : ℕ → List Item → List ℕ → Type 0
Stands zero items text = Unit {0}
Stands (suc n) [] text = ⊥
Stands (suc n) (item ∷ others) [] = ⊥
Stands (suc n) (item ∷ others) (b ∷ rest) = (allows item b ≡ true) × Stands n others rest

-- where a run ends: at a `*` behind n items; with both sides; or there is no match
abbrev pub Reaches : Reach → List Item → List ℕ → Type 0
Reaches (UpToStar n) items text =
    (others : List Item) × (n < length items) × (n ≤ length text) × Stands n items text × (drop n items ≡ Star ∷ others)
Reaches Whole items text = Matches items text
Reaches Nowhere items text = Matches items text → ⊥
