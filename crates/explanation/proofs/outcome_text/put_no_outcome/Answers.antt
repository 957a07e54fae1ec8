use Rattle.std.proofs.Common.{codes}
use Rattle.explanation.specs.Counting.{numbered_text}
use Rattle.explanation.specs.OutcomeTexts.{count_line}
use Rattle.explanation.proofs.Said.{behind}
use Rattle.explanation.proofs.outcome_text.put_no_outcome.Goals as goal

pub returns : goal.returns
returns c =
    behind c.put_count_line.result c.args.text.now c.put_numbered.new.text c.put_count_line.new.text
    (numbered_text (codes "There is no outcome ") c.args.number (codes " here: there are ")) (count_line c.args.entries.now)
    c.in_ok-put_numbered.ensures c.put_count_line.ensures
