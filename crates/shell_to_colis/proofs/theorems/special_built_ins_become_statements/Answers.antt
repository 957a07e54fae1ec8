use Rattle.std.proofs.Common.{refl}
use Rattle.shell_to_colis.proofs.theorems.special_built_ins_become_statements.Goals as goal

pub returns : goal.returns
returns c = λ operands defs. refl
