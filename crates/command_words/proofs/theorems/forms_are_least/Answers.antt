use Rattle.command_words.proofs.LeastWords.{form_is_least}
use Rattle.command_words.proofs.theorems.forms_are_least.Goals as goal

pub returns : goal.returns
returns c = form_is_least
