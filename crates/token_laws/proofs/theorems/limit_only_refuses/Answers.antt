use Rattle.shell_lexer.proofs.Unlimited.{cut_free, only_deep}
use Rattle.token_laws.proofs.theorems.limit_only_refuses.Goals as goal

pub returns-clause-cuts : goal.returns-clause-cuts
returns-clause-cuts c = cut_free

pub returns-clause-faults : goal.returns-clause-faults
returns-clause-faults c = only_deep
