-- Cells, each with a value of the tree or one made from the values of the cells before it, and what they stand for.
use Rattle.std.specs.Prelude.{◌≡◌, ℕ, suc, ◌<◌, ◌≤◌, IsTrue, All, List, [], ◌∷◌, ◌++◌, length, map, slice_index_or}
use Rattle.std.specs.Prelude.{Option, Some, None, if◌then◌else◌}
use Rattle.std.specs.Str.{bytes_eq}
use Rattle.feature_trees.specs.declared.shape.Entry.{Entry}
use Rattle.feature_trees.specs.declared.value.Value.{Value}
use Rattle.feature_trees.specs.declared.value.Value.TheVariants as value
use Rattle.feature_trees.specs.Sound.{sound}
use Rattle.feature_trees.specs.Tree.{update, entries_of}
use Rattle.tree_clauses.specs.declared.cell.Edit.{Edit}
use Rattle.tree_clauses.specs.Solved.{Rising}
use Rattle.tree_clauses.specs.declared.cell.Cell.{Cell}
use Rattle.tree_clauses.specs.declared.cell.Cell.TheVariants as cell
use Rattle.tree_clauses.specs.declared.cell.Found.{Found}
use Rattle.tree_clauses.specs.declared.cell.Found.TheVariants as found
use Rattle.tree_clauses.specs.declared.cell.Made.{Made}
use Rattle.tree_clauses.specs.declared.cell.Made.TheVariants as made
use Rattle.tree_clauses.specs.declared.cell.Source.{Source}
use Rattle.tree_clauses.specs.declared.cell.Source.TheVariants as source
use Rattle.tree_clauses.specs.declared.cell.Chain.{Chain}
use Rattle.tree_clauses.specs.declared.cell.Whole.{Whole}
use Rattle.tree_clauses.specs.declared.cell.Whole.TheVariants as whole

-- the value at a place; past the end nothing stands
abbrev pub value_at : List Value → ℕ → Value
value_at values place = slice_index_or values place value.Absent

-- the entries, with the value at its place under the name of each edit
abbrev pub edited : List Value → List Entry → List Edit → List Entry
edited values es [] = es
edited values es (edit ∷ edits) = edited values (update es edit.name (value_at values edit.place)) edits

-- the value of a cell, from the values at the places before it
abbrev pub cell_value : List Value → Cell → Value
cell_value values (cell.Seen v) = v.now
cell_value values cell.Absent = value.Absent
cell_value values cell.Reg = value.Reg
cell_value values (cell.Link target) = value.Link target
cell_value values cell.Empty = value.Dir []
cell_value values (cell.Edited from edits) = value.Dir (edited values (entries_of (value_at values from)) edits)

-- the values of cells that stand behind others with these values, and those of the others before them
abbrev pub values_onto : List Value → List Cell → List Value
values_onto values [] = values
values_onto values (cell ∷ cells) = values_onto (values ++ cell_value values cell ∷ []) cells

-- the values of cells, in their order
abbrev pub values_of : List Cell → List Value
values_of cells = values_onto [] cells

-- each edit is of a place below this one
abbrev pub AreBelow : ℕ → List Edit → Type 0
AreBelow place [] = Unit {0}
AreBelow place (edit ∷ edits) = (edit.place < place) × AreBelow place edits

-- the cell speaks of places below this one alone, and its edits stand in the order of their names
abbrev pub IsBelow : ℕ → Cell → Type 0
IsBelow place (cell.Seen v) = Unit {0}
IsBelow place cell.Absent = Unit {0}
IsBelow place cell.Reg = Unit {0}
IsBelow place (cell.Link target) = Unit {0}
IsBelow place cell.Empty = Unit {0}
IsBelow place (cell.Edited from edits) =
    (from < place) × AreBelow place edits × Rising (map (λ (edit : Edit). edit.name) edits)

-- each cell speaks of the places before its own alone, where the first one's place is this
abbrev pub AreInOrder : ℕ → List Cell → Type 0
AreInOrder place [] = Unit {0}
AreInOrder place (cell ∷ cells) = IsBelow place cell × AreInOrder (suc place) cells

-- each value is sound
abbrev pub AreSound : List Value → Type 0
AreSound values = All (λ v. IsTrue (sound v)) values

-- a value that is seen is sound
abbrev pub IsSeenSound : Cell → Type 0
IsSeenSound (cell.Seen v) = IsTrue (sound v.now)
IsSeenSound cell.Absent = Unit {0}
IsSeenSound cell.Reg = Unit {0}
IsSeenSound (cell.Link target) = Unit {0}
IsSeenSound cell.Empty = Unit {0}
IsSeenSound (cell.Edited from edits) = Unit {0}

-- each cell speaks of earlier ones alone, and all values are sound
pub record AreCells (cells : List Cell) : Type 0 where
  pub order : AreInOrder 0 cells
  pub sound : AreSound (values_of cells)

-- the value that was found under a name
abbrev pub found_value : List Value → Found → Value
found_value values found.Absent = value.Absent
found_value values (found.Seen v) = v.now
found_value values (found.At place) = value_at values place

-- what was found, where it has a place, has one below this one
abbrev pub IsFoundBelow : ℕ → Found → Type 0
IsFoundBelow place found.Absent = Unit {0}
IsFoundBelow place (found.Seen v) = Unit {0}
IsFoundBelow place (found.At other) = other < place

-- the place of the edit, where it is one of the name, else the place that was found
abbrev pub place_if : Edit → List ℕ → Option ℕ → Option ℕ
place_if edit f found = if bytes_eq edit.name f then Some edit.place else found

-- the place of the last edit of the name, else the place that was found
abbrev pub place_under : Option ℕ → List ℕ → List Edit → Option ℕ
place_under found f [] = found
place_under found f (edit ∷ edits) = place_under (place_if edit f found) f edits

-- the entries with several edits one after the other, from the last of these to the first
abbrev pub edited_along : List Value → List (List Edit) → List Entry → List Entry
edited_along values [] es = es
edited_along values (edits ∷ chain) es = edited values (edited_along values chain es) edits

-- all edits are of places below this one
abbrev pub AreAllBelow : ℕ → List (List Edit) → Type 0
AreAllBelow place [] = Unit {0}
AreAllBelow place (edits ∷ chain) = AreBelow place edits × AreAllBelow place chain

-- the entries of the value at a place, or those of an earlier one and edits that lead to it
abbrev pub IsSource : List Value → ℕ → Source → Type 0
IsSource values place (source.Entries es) = es ≡ entries_of (value_at values place)
IsSource values place (source.Edits from edits) =
    (from < place) × AreBelow place edits.now
    × (entries_of (value_at values place) ≡ edited values (entries_of (value_at values from)) edits.now)

-- the chain leads to the entries of the value at a place, and all its edits are of earlier places
pub record IsChain (values : List Value) (place : ℕ) (chain : Chain) : Type 0 where
  pub below : AreAllBelow place (map (λ edits. edits.now) chain.edits.items)
  pub leads :
      edited_along values (map (λ edits. edits.now) chain.edits.items) chain.entries
      ≡ entries_of (value_at values place)

-- the value that is made: that of a new cell or that at a place
abbrev pub made_value : List Value → Made → Value
made_value values (made.New cell) = cell_value values cell
made_value values (made.Old place) = value_at values place

-- what is made speaks of places below this one alone
abbrev pub IsMadeBelow : ℕ → Made → Type 0
IsMadeBelow place (made.New cell) = IsBelow place cell
IsMadeBelow place (made.Old other) = other < place

-- a value stands at a place now, and the old values stand where they stood
pub record IsPlaced (old new : List Value) (v : Value) (place : ℕ) : Type 0 where
  pub within : place < length new
  pub value : value_at new place ≡ v
  pub grows : length old ≤ length new
  pub kept : (other : ℕ) → other < length old → value_at new other ≡ value_at old other

-- the value, seen in the tree or built
abbrev pub whole_value : Whole → Value
whole_value (whole.Seen v) = v.now
whole_value (whole.Built v) = v

-- each place is one of a value
abbrev pub AreWithin : (ℕ → Option ℕ) → List Value → Type 0
AreWithin places values = (x place : ℕ) → places x ≡ Some place → place < length values

-- what is made, if anything, speaks of places of values alone
abbrev pub IsMadeWithin : List Value → Option Made → Type 0
IsMadeWithin values None = Unit {0}
IsMadeWithin values (Some made) = IsMadeBelow (length values) made

-- the edit puts this value under this name; nothing where there is none
abbrev pub IsEdit : List Value → List ℕ → Option Value → Option Edit → Type 0
IsEdit values f v None = v ≡ None
IsEdit values f v (Some edit) =
    (v ≡ Some (value_at values edit.place)) × (edit.name ≡ f) × (edit.place < length values)

-- the edits, if any, are of places of values and have these names
abbrev pub AreEditsOf : List Value → List (List ℕ) → Option (List Edit) → Type 0
AreEditsOf values names None = Unit {0}
AreEditsOf values names (Some edits) =
    AreBelow (length values) edits × (map (λ (edit : Edit). edit.name) edits ≡ names)
