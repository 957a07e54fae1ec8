use Rattle.colis_reader.proofs.ProgramLaw.{texts_apart}
use Rattle.colis_reader.proofs.theorems.program_texts_apart.Goals as goal

pub returns : goal.returns
returns c program other is also e = texts_apart program other is also e
