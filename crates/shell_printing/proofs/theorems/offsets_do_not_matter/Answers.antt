use Rattle.shell_printing.proofs.Offsets.{offsets_do_not_matter as same}
use Rattle.shell_printing.proofs.theorems.offsets_do_not_matter.Goals as goal

pub returns : goal.returns
returns c = same
