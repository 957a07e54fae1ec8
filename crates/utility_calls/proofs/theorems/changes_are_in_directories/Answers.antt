use Rattle.utility_calls.proofs.InDirectories.{in_directory}
use Rattle.utility_calls.proofs.theorems.changes_are_in_directories.Goals as goal

pub returns : goal.returns
returns c act tree performed s = in_directory act tree performed s
