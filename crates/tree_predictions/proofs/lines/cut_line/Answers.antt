use Rattle.std.proofs.Common.{sym, ◌∙◌}
use Rattle.tree_predictions.proofs.TextLines.{at_newline, no_newline}
use Rattle.tree_predictions.proofs.lines.cut_line.Goals as goal

pub returns-in-Some : goal.returns-in-Some
returns-in-Some c = at_newline c.args.text.now c.in-Some.at (sym c.first_newline.ensures.at ∙ c.in-Some.is)

pub returns-in-None : goal.returns-in-None
returns-in-None c = no_newline c.args.text.now (sym c.first_newline.ensures.at ∙ c.in-None.is)
