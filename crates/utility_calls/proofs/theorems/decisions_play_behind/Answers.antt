use Rattle.utility_calls.proofs.Playing.{plays_behind}
use Rattle.utility_calls.proofs.theorems.decisions_play_behind.Goals as goal

pub returns : goal.returns
returns g c = λ d tree trace acts. plays_behind d tree trace acts
