use Rattle.shell_rules.proofs.NothingStated.{none_planned}
use Rattle.shell_rules.proofs.theorems.no_premises_no_change.Goals as goal

pub returns : goal.returns
returns c = none_planned
