use Rattle.utility_calls.proofs.Ways.{parents}
use Rattle.utility_calls.proofs.theorems.parents_are_dirs.Goals as goal

pub returns : goal.returns
returns c v f p = parents v f p
