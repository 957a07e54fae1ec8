use Rattle.token_laws.proofs.PrintedOperators.{operators_read_back, substitutions_close}
use Rattle.token_laws.proofs.printed.operators_read_back.Goals as goal

pub returns-clause-tokens : goal.returns-clause-tokens
returns-clause-tokens c = operators_read_back

pub returns-clause-closing : goal.returns-clause-closing
returns-clause-closing c = substitutions_close
