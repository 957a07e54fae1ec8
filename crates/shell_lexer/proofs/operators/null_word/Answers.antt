use Rattle.shell_lexer.proofs.Numbers.{on_before}
use Rattle.shell_lexer.proofs.operators.null_word.Goals as goal

pub returns-clause-on : goal.returns-clause-on
returns-clause-on c = c.whole_word.ensures.on c.args.at (on_before _ _ _ _ c.run_end-begin.ensures.on c.after_all.ensures.on)
