use Rattle.std.proofs.Common.{length, sym, ◌∙◌}
use Rattle.std.proofs.Math.Seq.{drop-length}
use Rattle.std.proofs.lemmas.List.{drop_all, take_rest}
use Rattle.tree_predictions.proofs.lines.head_name.Goals as goal

pub returns : goal.returns
returns c =
    let line = c.args.line.now in
    take_rest line (length line) ∙ drop-length line ∙ sym (drop_all 5 line c.if-line-gt5.false)
