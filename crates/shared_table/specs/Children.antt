-- The children of a node, each seen as its height, 0 for a leaf, and its items, in order; and one change of a list.
use Rattle.std.specs.Prelude.{◌≡◌, ℕ, zero, suc, ◌≤◌, List, [], ◌∷◌, ◌++◌, length}

module _ {A : Type 0} where
  -- the list with an item at a place, in place of what is there; its end is a place too
  abbrev pub with_item : List A → ℕ → A → List A
  with_item [] at item = item ∷ []
  with_item (x ∷ xs) zero item = item ∷ xs
  with_item (x ∷ xs) (suc at) item = x ∷ with_item xs at item

  -- the items of the children, one child after another
  abbrev pub joined : List (ℕ × List A) → List A
  joined [] = []
  joined (child ∷ children) = child.1 ++ joined children

  -- a child before others has as many items as it may have, and the last one no more
  abbrev pub IsFilled : ℕ → ℕ × List A → List (ℕ × List A) → Type 0
  IsFilled width child [] = length child.1 ≤ width
  IsFilled width child (_ ∷ _) = length child.1 ≡ width

  -- children of a node of a height: each is one lower, and they are filled in order
  abbrev pub IsRow : ℕ → ℕ → List (ℕ × List A) → Type 0
  IsRow height width [] = Unit {0}
  IsRow height width (child ∷ children) =
      (suc child.0 ≡ height) × IsFilled width child children × IsRow height width children
