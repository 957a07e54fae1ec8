use Rattle.shell_lexer.proofs.SpelledOperators.{sees_operator, operator_seen}
use Rattle.token_laws.proofs.theorems.operators_are_longest.Goals as goal

pub returns : goal.returns
returns c = λ len text rest which. (operator_seen len text rest which, sees_operator len text rest which)
