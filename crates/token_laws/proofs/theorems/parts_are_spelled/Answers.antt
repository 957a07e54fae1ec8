use Rattle.shell_lexer.specs.Parts.{Piece}
use Rattle.shell_lexer.proofs.SpelledParts.{look_piece, inner_piece, look_seen, inner_seen}
use Rattle.token_laws.proofs.theorems.parts_are_spelled.Goals as goal

pub returns-clause-outside : goal.returns-clause-outside
returns-clause-outside c = λ len text rest part. (look_seen len text (Piece part rest), look_piece len text rest part)

pub returns-clause-inside : goal.returns-clause-inside
returns-clause-inside c = λ len text rest part. (inner_seen len text (Piece part rest), inner_piece len text rest part)
