use Rattle.shell_lexer.proofs.Tiles.{cut_tiled, offsets_rise}
use Rattle.token_laws.proofs.theorems.cuts_are_tiled.Goals as goal

pub returns-clause-tiled : goal.returns-clause-tiled
returns-clause-tiled c = cut_tiled

pub returns-clause-rise : goal.returns-clause-rise
returns-clause-rise c = offsets_rise
