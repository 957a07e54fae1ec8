use Rattle.shell_to_colis.proofs.SameScript.{script_same}
use Rattle.shell_to_colis.proofs.theorems.programs_do_the_same.Goals as goal

pub returns : goal.returns
returns c = script_same
