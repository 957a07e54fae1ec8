use Rattle.shell_grammar.proofs.FromTable.{plain_script}
use Rattle.shell_grammar.proofs.ToTable.{table_script}
use Rattle.shell_grammar.proofs.theorems.the_table_is_the_grammar.Goals as goal

pub returns : goal.returns
returns c = λ end ts body. (plain_script end ts body, table_script end ts body)
