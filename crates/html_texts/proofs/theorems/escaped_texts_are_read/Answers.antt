use Rattle.html_texts.proofs.ReadBack.{text_read, text_bare}
use Rattle.html_texts.proofs.theorems.escaped_texts_are_read.Goals as goal

pub returns-clause-read : goal.returns-clause-read
returns-clause-read c text = text_read text

pub returns-clause-bare : goal.returns-clause-bare
returns-clause-bare c text = text_bare text
