use Rattle.std.proofs.Common.{◌++◌, ◌∷◌, [], length, subst, sym}
use Rattle.tree_clauses.specs.Cells.{values_of, cell_value, AreCells, IsBelow, IsPlaced}
use Rattle.tree_clauses.proofs.CellValues.{cells_push, cell_placed}
use Rattle.tree_clauses.proofs.cells.Cells.push.Goals as goal

pub invariant_of-self-2 : goal.invariant_of-self-2
invariant_of-self-2 c =
    subst AreCells (sym c.in_ok-add.ensures.ok)
    (cells_push c.self.inside.cells c.args.cell c.self.invariant
    (subst (λ values. IsBelow (length values) c.args.cell) (sym c.self.view_is) c.requires) c.seen_is_sound.ensures)

pub returns-clause-placed : goal.returns-clause-placed
returns-clause-placed c =
    subst (λ cells. IsPlaced c.args.self.now (values_of cells) (cell_value c.args.self.now c.args.cell) c.len-place.result) (sym c.in_ok-add.ensures.ok)
    (subst (λ values. IsPlaced values (values_of (c.self.inside.cells ++ c.args.cell ∷ [])) (cell_value values c.args.cell) c.len-place.result) c.self.view_is
    (cell_placed c.self.inside.cells c.args.cell c.len-place.result c.len-place.ensures))
