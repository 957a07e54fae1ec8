use Rattle.shell_grammar.proofs.Levels.{same_level}
use Rattle.shell_grammar.proofs.Prefixes.{fewer_begin}
use Rattle.shell_grammar.proofs.Scripts.{script_begins}
use Rattle.shell_grammar.proofs.theorems.beginnings_are_closed.Goals as goal

pub returns-clause-closed : goal.returns-clause-closed
returns-clause-closed c = fewer_begin 0

pub returns-clause-level : goal.returns-clause-level
returns-clause-level c = λ end u t l l2. same_level 0 end l l2 u t

pub returns-clause-scripts : goal.returns-clause-scripts
returns-clause-scripts c = script_begins
