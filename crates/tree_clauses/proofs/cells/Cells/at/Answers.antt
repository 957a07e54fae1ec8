use Rattle.std.proofs.Common.{subst}
use Rattle.tree_clauses.proofs.CellValues.{IsCellAt, is_cell_at}
use Rattle.tree_clauses.proofs.cells.Cells.at.Goals as goal

pub returns : goal.returns
returns c =
    subst (λ values. IsCellAt values c.args.at c.get.result) c.self.view_is
    (is_cell_at c.self.inside.cells c.args.at c.get.result c.self.invariant c.get.ensures.value)
