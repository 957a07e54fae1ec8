use Rattle.std.proofs.Common.{refl}
use Rattle.shell_rules.proofs.theorems.special_names_are_no_utilities.Goals as goal

pub returns : goal.returns
returns c = refl
