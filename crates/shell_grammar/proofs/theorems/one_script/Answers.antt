use Rattle.shell_grammar.proofs.Limits.{one_script}
use Rattle.shell_grammar.proofs.theorems.one_script.Goals as goal

pub returns : goal.returns
returns c = one_script
