use Rattle.shell_lexer.proofs.SpelledLine.{line_is, line_accepted}
use Rattle.token_laws.proofs.theorems.first_lines_are_spelled.Goals as goal

pub returns : goal.returns
returns c = λ line strict. (line_is line strict, line_accepted line strict)
