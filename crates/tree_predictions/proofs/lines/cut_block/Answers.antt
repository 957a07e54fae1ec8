use Rattle.std.proofs.Common.{sym, ◌∙◌}
use Rattle.tree_predictions.proofs.Fronts.{one_line}
use Rattle.tree_predictions.proofs.TextLines.{some_left}
use Rattle.tree_predictions.proofs.lines.cut_block.Goals as goal

pub loop-line-preserved : goal.loop-line-preserved
loop-line-preserved c =
    one_line c.args.text.now c.loop-line.left.now c.cut_line.result.0.now c.cut_line.result.1.now c.loop-line.lines
    (some_left c.loop-line.left.now _ c.is_empty.ensures c.loop-line-test.true) c.loop-line.invariant c.cut_line.ensures
    (sym c.is_head.ensures ∙ c.if-is_head.false)
