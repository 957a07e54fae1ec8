-- A fact leaves everything to a column whose place is neither its own nor below.
use Rattle.std.proofs.Common.{◌≡◌, ℕ, Bool, true, false, List, [], ◌∷◌, None, refl, sym, ap, ◌∙◌}
use Rattle.std.specs.Prelude.{◌&&◌}
use Rattle.feature_trees.specs.declared.kind.Kinds.{Kinds}
use Rattle.feature_trees.specs.Kinds.{all, both}
use Rattle.start_facts.specs.declared.fact.PlaceFact.{PlaceFact}
use Rattle.fact_boxes.specs.declared.cells.Column.{Column}
use Rattle.fact_boxes.specs.declared.cells.Cell.{Cell}
use Rattle.fact_boxes.specs.Cells.{anything, behind, beside, leaves, left_below, meet}

and_true : (b : Bool) → (b && true) ≡ b
and_true true = refl
and_true false = refl

both_all : (s : Kinds) → both s all ≡ s
both_all s =
    rw (
      and_true s.absent,
      and_true s.reg,
      and_true s.link,
      and_true s.fifo,
      and_true s.socket,
      and_true s.block,
      and_true s.char,
      and_true s.dir,
    ) refl

meet_anything : (cell : Cell) → meet cell anything ≡ cell
meet_anything cell = rw (both_all cell.kinds, and_true cell.none, and_true cell.some) refl

beside_anything : (but : List (List ℕ)) → beside but anything ≡ anything
beside_anything [] = refl
beside_anything (f ∷ but) = refl

pub nothing_said : (cell : Cell) (said : PlaceFact) (column : Column) → behind said.place column.place ≡ None
    → cell ≡ meet cell (leaves said column)
nothing_said cell said column apart =
    sym (ap (λ o. meet cell (beside column.but (left_below said.fact column.but o))) apart
    ∙ ap (meet cell) (beside_anything column.but) ∙ meet_anything cell)
