use Rattle.std.proofs.Common.{ap, sym, ◌∙◌}
use Rattle.fact_boxes.specs.Cells.{behind}
use Rattle.fact_boxes.proofs.Narrowing.{nothing_said}
use Rattle.fact_boxes.proofs.cells.narrow.Goals as goal

pub returns-in-None : goal.returns-in-None
returns-in-None c =
    nothing_said c.args.cell c.args.said.now c.args.column.now
    (sym (c.in-None.ensures ∙ ap (λ a. behind a c.as_slice-2.result.now) c.as_slice.ensures
    ∙ ap (behind c.args.said.now.place) c.as_slice-2.ensures))
