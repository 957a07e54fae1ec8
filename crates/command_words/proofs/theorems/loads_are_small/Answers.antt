use Rattle.command_words.proofs.Loads.{loads_are_small}
use Rattle.command_words.proofs.theorems.loads_are_small.Goals as goal

pub returns : goal.returns
returns c = loads_are_small
