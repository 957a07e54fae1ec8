use Rattle.colis_reader.proofs.ProgramLaw.{read_back}
use Rattle.colis_reader.proofs.theorems.programs_read_back.Goals as goal

pub returns : goal.returns
returns c program is answer reads = read_back program is answer reads
