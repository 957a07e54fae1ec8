-- Boxes: rows in one of which each outcome of a group lies, and as far as can be none of another.
use Rattle.std.specs.Prelude.{ℕ, zero, suc, Bool, not, ◌&&◌, nat_le, nat_lt}
use Rattle.std.specs.Prelude.{List, [], ◌∷◌, ◌++◌, length, slice_set}
use Rattle.std.specs.Prelude.{if◌then◌else◌}
use Rattle.std.specs.List.{list_any, list_all, filter}
use Rattle.fact_boxes.specs.declared.boxes.TheConstants.{MOST_BOXES, MOST_MEMBERS}
use Rattle.fact_boxes.specs.Cells.{anything, is_anything, clash}
use Rattle.fact_boxes.specs.Rows.{Row, joined, clashes, row_at, cell_at}

-- ---- which outcomes a row tells apart

-- no outsider lies in the row
abbrev pub tells : List Row → List ℕ → Row → Bool
tells rows outs box = list_all (λ o. clashes box (row_at rows o)) outs

-- ---- rows joined

-- a row and the rows of these members, joined
abbrev pub hull_of : List Row → Row → List ℕ → Row
hull_of rows row [] = row
hull_of rows row (m ∷ members) = hull_of rows (joined row (row_at rows m)) members

-- one row more: joined to the first box with which it still tells the outsiders apart, else a box of its own
abbrev pub with_row : List Row → List ℕ → Row → List Row → List Row
with_row rows outs row [] = row ∷ []
with_row rows outs row (box ∷ boxes) =
    if tells rows outs (joined box row) then joined box row ∷ boxes else box ∷ with_row rows outs row boxes

-- the rows of these members, one after the other, while the boxes are few
abbrev pub boxes_onto : List Row → List ℕ → List Row → List ℕ → List Row
boxes_onto rows outs boxes [] = boxes
boxes_onto rows outs boxes (m ∷ members) =
    if nat_lt MOST_BOXES (length boxes) then boxes
    else boxes_onto rows outs (with_row rows outs (row_at rows m) boxes) members

-- ---- facts that are needed

-- the row with everything left in a column
abbrev pub without : Row → ℕ → Row
without row k = slice_set row k anything

-- the cell of an outsider in this column has nothing of the row's
unfoldable pub differs : List Row → Row → ℕ → ℕ → Bool
differs rows box k o = clash (cell_at box k) (cell_at (row_at rows o) k)

-- a column in which something is told, and that by it one of these outsiders is told apart
unfoldable pub is_needed : List Row → List ℕ → Row → ℕ → Bool
is_needed rows outs box k = not (is_anything (cell_at box k)) && list_any (λ o. differs rows box k o) outs

-- Column by column: one that tells no outsider apart that is left is given up, and those that one tells apart are left
-- no more.
abbrev pub needed : List Row → List ℕ → List ℕ → Row → Row
needed rows outs [] box = box
needed rows outs (k ∷ ks) box =
    if is_needed rows outs box k then needed rows (filter (λ o. not (differs rows box k o)) outs) ks box
    else needed rows outs ks (without box k)

-- the numbers below one, from the first on
abbrev pub numbers_to : ℕ → List ℕ
numbers_to zero = []
numbers_to (suc n) = numbers_to n ++ n ∷ []

-- and from the last on
abbrev pub numbers_below : ℕ → List ℕ
numbers_below zero = []
numbers_below (suc n) = n ∷ numbers_below n

-- what is needed of a row, column by column from the first to the last, and of that from the last to the first
abbrev pub shortened : List Row → List ℕ → Row → Row
shortened rows outs box =
    needed rows outs (numbers_below (length box)) (needed rows outs (numbers_to (length box)) box)

-- the rows, each shortened
abbrev pub all_shortened : List Row → List ℕ → List Row → List Row
all_shortened rows outs [] = []
all_shortened rows outs (box ∷ boxes) = shortened rows outs box ∷ all_shortened rows outs boxes

-- ---- the boxes of a group

-- the hull alone, where boxes that tell the outsiders apart are not found
abbrev pub boxes_else : List Row → List ℕ → Row → List Row → List Row
boxes_else rows outs hull boxes =
    if nat_le (length boxes) MOST_BOXES && list_all (tells rows outs) boxes then boxes else hull ∷ []

-- boxes of members, where the hull does not tell the outsiders apart
abbrev pub boxes_beside : List Row → List ℕ → List ℕ → Row → List Row
boxes_beside rows members outs hull =
    if tells rows outs hull then hull ∷ []
    else (if nat_lt MOST_MEMBERS (length members) then hull ∷ []
    else boxes_else rows outs hull (boxes_onto rows outs [] members))

-- the boxes of these members beside these outsiders
abbrev pub boxes_of : List Row → List ℕ → List ℕ → List Row
boxes_of rows [] outs = []
boxes_of rows (m ∷ members) outs =
    all_shortened rows outs (boxes_beside rows (m ∷ members) outs (hull_of rows (row_at rows m) members))
