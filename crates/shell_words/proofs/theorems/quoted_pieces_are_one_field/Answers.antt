use Rattle.shell_words.proofs.QuotedWords.{quoted-is-one-field}
use Rattle.shell_words.proofs.theorems.quoted_pieces_are_one_field.Goals as goal

pub returns : goal.returns
returns c = quoted-is-one-field
