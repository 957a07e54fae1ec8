use Rattle.std.proofs.Common.{◌∙◌, sym}
use Rattle.shell_lexer.proofs.Cells.{wanted_next, wanted_not}
use Rattle.shell_lexer.proofs.runs.+after_all.Goals as goal

pub returns-in-Some-clause-behind : goal.returns-in-Some-clause-behind
returns-in-Some-clause-behind t c = c.after_all.ensures.behind ∙ wanted_next c.args.wanted.now _ _ c.in-len1-up.len_at_least c.in-Some.ensures.2 c.in-Some.ensures.3

pub returns-in-None-clause-behind : goal.returns-in-None-clause-behind
returns-in-None-clause-behind t c = sym (wanted_not c.args.wanted.now _ c.in-len1-up.len_at_least c.in-None.ensures)
