use Rattle.std.proofs.Common.{true, false, refl}
use Rattle.shell_printing.specs.Laws.{PrintedFirstLinesAreRead}
use Rattle.shell_printing.proofs.Texts.{printed_texts_are_tokens as texts}
use Rattle.shell_printing.proofs.theorems.printed_texts_are_tokens.Goals as goal

pub returns-clause-texts : goal.returns-clause-texts
returns-clause-texts c = texts

first_lines : PrintedFirstLinesAreRead
first_lines true rest = (refl, refl)
first_lines false rest = (refl, refl)

pub returns-clause-first_lines : goal.returns-clause-first_lines
returns-clause-first_lines c = first_lines
