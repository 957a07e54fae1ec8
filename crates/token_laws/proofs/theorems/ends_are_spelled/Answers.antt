use Rattle.shell_lexer.specs.Parts.{Ends}
use Rattle.shell_lexer.proofs.SpelledEnds.{look_ends, inner_ends, word_ends, word_end_is}
use Rattle.shell_lexer.proofs.SpelledParts.{look_seen, inner_seen}
use Rattle.shell_lexer.proofs.SpelledWrong.{end_is, end_seen}
use Rattle.token_laws.proofs.theorems.ends_are_spelled.Goals as goal

pub returns-clause-word : goal.returns-clause-word
returns-clause-word c = λ len text. (look_seen len text Ends, look_ends len text)

pub returns-clause-redirected : goal.returns-clause-redirected
returns-clause-redirected c = λ text. (word_end_is text, word_ends text)

pub returns-clause-inside : goal.returns-clause-inside
returns-clause-inside c = λ len text. (inner_seen len text Ends, inner_ends len text)

pub returns-clause-tokens : goal.returns-clause-tokens
returns-clause-tokens c = λ len text. (end_is len text, end_seen len text)
