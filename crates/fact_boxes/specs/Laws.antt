-- What holds of rows and boxes.
use Rattle.std.specs.Prelude.{◌↔◌, ℕ, List, IsTrue, All, Contains}
use Rattle.std.specs.List.{list_all}
use Rattle.feature_trees.specs.declared.value.Value.{Value}
use Rattle.feature_trees.specs.Tree.{at}
use Rattle.start_facts.specs.declared.fact.PlaceFact.{PlaceFact}
use Rattle.start_facts.specs.PlaceFacts.{Holds}
use Rattle.fact_boxes.specs.declared.cells.Column.{Column}
use Rattle.fact_boxes.specs.declared.cells.Cell.{Cell}
use Rattle.fact_boxes.specs.Cells.{told}
use Rattle.fact_boxes.specs.Rows.{Row, row_of, row_at}
use Rattle.fact_boxes.specs.Boxes.{boxes_of, tells}
use Rattle.fact_boxes.specs.Holds.{Fits, IsRow, LiesIn, LiesInSome}

-- the row of facts has a cell for a column alone
abbrev pub FactsAreRows : Type 0
FactsAreRows = (columns : List Column) (facts : List PlaceFact) → IsRow columns (row_of columns facts)

-- a tree of which facts hold lies in their row
abbrev pub FactsLie : Type 0
FactsLie = (tree : Value) (columns : List Column) (facts : List PlaceFact) → All (Holds tree) facts
    → LiesIn tree columns (row_of columns facts)

-- a tree that lies in the row of a member lies in one of the boxes
abbrev pub BoxesAreMet : Type 0
BoxesAreMet = (tree : Value) (columns : List Column) (rows : List Row) (members outs : List ℕ) (m : ℕ)
    → Contains members m → LiesIn tree columns (row_at rows m)
    → LiesInSome tree columns (boxes_of rows members outs)

-- a tree that lies in the row of an outsider lies in no box, where these tell the outsiders apart
abbrev pub BoxesAreApart : Type 0
BoxesAreApart = (tree : Value) (columns : List Column) (rows : List Row) (outs : List ℕ) (boxes : List Row) (o : ℕ)
    → IsTrue (list_all (tells rows outs) boxes) → Contains outs o
    → IsRow columns (row_at rows o) → LiesIn tree columns (row_at rows o)
    → ¬ (LiesInSome tree columns boxes)

-- what is told of a cell holds of a tree exactly where what stands at the column's place fits the cell
abbrev pub ToldIsFit : Type 0
ToldIsFit = (tree : Value) (column : Column) (cell : Cell)
    → All (Holds tree) (told column cell) ↔ Fits (at tree column.place) column.but cell
