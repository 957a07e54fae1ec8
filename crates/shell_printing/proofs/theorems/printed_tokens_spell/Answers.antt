use Rattle.shell_lexer.specs.Depth.{too_deep}
use Rattle.shell_printing.proofs.Spelled.{printed_tokens_spell as spelled}
use Rattle.shell_printing.proofs.theorems.printed_tokens_spell.Goals as goal

pub returns-clause-texts : goal.returns-clause-texts
returns-clause-texts c = λ text l body end us x s z. spelled l.end end l.tokens us body (c.cut_runs_are_longest.ensures too_deep text l x) s z

pub returns-clause-tokens : goal.returns-clause-tokens
returns-clause-tokens c = spelled
