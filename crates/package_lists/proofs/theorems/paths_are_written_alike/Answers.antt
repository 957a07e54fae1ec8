use Rattle.package_lists.proofs.Written.{writes_back}
use Rattle.package_lists.proofs.theorems.paths_are_written_alike.Goals as goal

pub returns : goal.returns
returns c = writes_back
