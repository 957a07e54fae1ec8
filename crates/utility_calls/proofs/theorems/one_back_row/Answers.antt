use Rattle.utility_calls.proofs.BackRow.{one_back_row, keep_dirs, keep_sound, in_directories}
use Rattle.utility_calls.proofs.theorems.one_back_row.Goals as goal

pub returns-clause-one : goal.returns-clause-one
returns-clause-one c = one_back_row

pub returns-clause-dir : goal.returns-clause-dir
returns-clause-dir c = keep_dirs

pub returns-clause-sound : goal.returns-clause-sound
returns-clause-sound c = keep_sound c.puts_are_local.ensures.sound

pub returns-clause-parents : goal.returns-clause-parents
returns-clause-parents c = in_directories
