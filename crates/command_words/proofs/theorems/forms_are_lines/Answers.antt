use Rattle.command_words.proofs.SpelledLines.{form_is_line}
use Rattle.command_words.proofs.theorems.forms_are_lines.Goals as goal

pub returns : goal.returns
returns c = form_is_line
