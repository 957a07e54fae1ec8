-- When what is left to columns is so of a tree.
use Rattle.std.specs.Prelude.{◌≡◌, ◌⊎◌, ℕ, false, List, [], ◌∷◌, IsTrue}
use Rattle.feature_trees.specs.declared.value.Value.{Value}
use Rattle.feature_trees.specs.Kinds.{has}
use Rattle.feature_trees.specs.Tree.{at, kind_of}
use Rattle.start_facts.specs.declared.fact.Fact.TheVariants as fact
use Rattle.start_facts.specs.PlaceFacts.{Says}
use Rattle.fact_boxes.specs.declared.cells.Column.{Column}
use Rattle.fact_boxes.specs.declared.cells.Cell.{Cell}
use Rattle.fact_boxes.specs.Rows.{Row}

-- what stands there is one of the kinds, and has no entry under another name than these, or has one, where the cell
-- leaves only that
pub record Fits (v : Value) (but : List (List ℕ)) (cell : Cell) : Type 0 where
  pub kinds : IsTrue (has cell.kinds (kind_of v))
  pub some : cell.some ≡ false → Says (fact.Fence but) v
  pub none : cell.none ≡ false → Says (fact.Beside but) v

-- the tree lies in the row: what stands at the place of each column fits its cell
abbrev pub LiesIn : Value → List Column → Row → Type 0
LiesIn tree [] row = Unit {0}
LiesIn tree (column ∷ columns) [] = Unit {0}
LiesIn tree (column ∷ columns) (cell ∷ row) = Fits (at tree column.place) column.but cell × LiesIn tree columns row

-- the row has a cell for a column alone
abbrev pub IsRow : List Column → Row → Type 0
IsRow [] [] = Unit {0}
IsRow [] (cell ∷ row) = ⊥
IsRow (column ∷ columns) [] = Unit {0}
IsRow (column ∷ columns) (cell ∷ row) = IsRow columns row

-- the tree lies in one of the rows
abbrev pub LiesInSome : Value → List Column → List Row → Type 0
LiesInSome tree columns [] = ⊥
LiesInSome tree columns (row ∷ rows) = LiesIn tree columns row ⊎ LiesInSome tree columns rows
