use Rattle.shell_grammar.proofs.Limits.{spelled}
use Rattle.shell_grammar.proofs.theorems.within_the_limit.Goals as goal

pub returns : goal.returns
returns c = λ end ts a x. spelled end ts a x.rest x.reads
