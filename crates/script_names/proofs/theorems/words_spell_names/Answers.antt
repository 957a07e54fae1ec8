use Rattle.script_names.proofs.Parts.{names_spelled}
use Rattle.script_names.proofs.theorems.words_spell_names.Goals as goal

pub returns : goal.returns
returns c = names_spelled
