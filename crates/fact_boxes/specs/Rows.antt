-- Columns, and the row of each outcome: what its facts leave to each column.
use Rattle.std.specs.Prelude.{ℕ, Bool, true, false, ◌&&◌, ◌||◌, List, [], ◌∷◌, ◌++◌, map, slice_index_or}
use Rattle.std.specs.Prelude.{Option, Some, None, if◌then◌else◌}
use Rattle.std.specs.List.{list_any}
use Rattle.start_facts.specs.declared.fact.Fact.{Fact}
use Rattle.start_facts.specs.declared.fact.Fact.TheVariants as fact
use Rattle.start_facts.specs.declared.fact.PlaceFact.{PlaceFact}
use Rattle.fact_boxes.specs.declared.cells.Column.{Column}
use Rattle.fact_boxes.specs.declared.cells.Cell.{Cell}
use Rattle.fact_boxes.specs.Cells.{anything, behind, leaves, meet, join, clash}

-- ---- columns

-- no name follows: the names are the same
abbrev pub are_same : Option (List (List ℕ)) → Bool
are_same None = false
are_same (Some []) = true
are_same (Some (f ∷ names)) = false

-- the same column
abbrev pub same_column : Column → Column → Bool
same_column a b = are_same (behind a.place b.place) && are_same (behind a.but b.but)

-- the column of entries under other names than these, where there are any
abbrev pub beside_column : List (List ℕ) → List (List ℕ) → List Column
beside_column place [] = []
beside_column place (f ∷ but) = record { place = place; but = f ∷ but } ∷ []

-- the names that a fact is beside
abbrev pub names_of : Fact → List (List ℕ)
names_of (fact.Kinds kinds) = []
names_of (fact.Fence names) = names
names_of (fact.Beside names) = names
names_of (fact.Target target) = []

-- the columns of a fact
abbrev pub fact_columns : PlaceFact → List Column
fact_columns said = record { place = said.place; but = [] } ∷ beside_column said.place (names_of said.fact)

-- one column more, unless it is there
abbrev pub with_column : List Column → Column → List Column
with_column columns column = if list_any (same_column column) columns then columns else columns ++ column ∷ []

-- more columns, each once
abbrev pub with_columns : List Column → List Column → List Column
with_columns columns [] = columns
with_columns columns (column ∷ more) = with_columns (with_column columns column) more

-- the columns of facts, in the order in which they first come
abbrev pub columns_onto : List Column → List PlaceFact → List Column
columns_onto columns [] = columns
columns_onto columns (said ∷ facts) = columns_onto (with_columns columns (fact_columns said)) facts

-- the columns of lists of facts
abbrev pub columns_of : List Column → List (List PlaceFact) → List Column
columns_of columns [] = columns
columns_of columns (facts ∷ lists) = columns_of (columns_onto columns facts) lists

-- ---- rows

-- a cell for each column
abbrev pub Row : Type 0
Row = List Cell

-- what one or the other leaves, column by column
abbrev pub joined : Row → Row → Row
joined [] ys = []
joined (a ∷ xs) [] = []
joined (a ∷ xs) (b ∷ ys) = join a b ∷ joined xs ys

-- nothing is left by both in some column
abbrev pub clashes : Row → Row → Bool
clashes [] ys = false
clashes (a ∷ xs) [] = false
clashes (a ∷ xs) (b ∷ ys) = clash a b || clashes xs ys

-- what further facts leave of a column's cell
abbrev pub narrowed : Column → Cell → List PlaceFact → Cell
narrowed column cell [] = cell
narrowed column cell (said ∷ facts) = narrowed column (meet cell (leaves said column)) facts

-- what facts leave to each column
abbrev pub row_of : List Column → List PlaceFact → Row
row_of columns facts = map (λ column. narrowed column anything facts) columns

-- the row at a place
abbrev pub row_at : List Row → ℕ → Row
row_at rows place = slice_index_or rows place []

-- the cell at a place
abbrev pub cell_at : Row → ℕ → Cell
cell_at row k = slice_index_or row k anything
