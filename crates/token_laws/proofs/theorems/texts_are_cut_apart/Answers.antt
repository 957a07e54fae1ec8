use Rattle.token_laws.proofs.MovedReadings.{readings_move, alone_apart}
use Rattle.token_laws.proofs.TwoCuts.{cut_apart}
use Rattle.token_laws.proofs.theorems.texts_are_cut_apart.Goals as goal

pub returns-clause-apart : goal.returns-clause-apart
returns-clause-apart c = cut_apart

pub returns-clause-moved : goal.returns-clause-moved
returns-clause-moved c = readings_move

pub returns-clause-alone : goal.returns-clause-alone
returns-clause-alone c = alone_apart
