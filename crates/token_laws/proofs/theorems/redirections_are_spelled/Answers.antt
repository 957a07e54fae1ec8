use Rattle.shell_lexer.specs.declared.sight.Sign.TheVariants.{Redirect}
use Rattle.shell_lexer.proofs.SpelledOperators.{operator_seen}
use Rattle.shell_lexer.proofs.SpelledRedirects.{sees_redirected}
use Rattle.token_laws.proofs.theorems.redirections_are_spelled.Goals as goal

pub returns : goal.returns
returns c = λ len text rest which. (operator_seen len text rest (Redirect which), sees_redirected len text rest which)
