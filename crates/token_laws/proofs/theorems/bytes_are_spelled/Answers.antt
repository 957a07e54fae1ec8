use Rattle.std.proofs.Common.{false, true}
use Rattle.shell_lexer.specs.Parts.{Byte}
use Rattle.token_laws.proofs.BytesSeen.{byte_sees}
use Rattle.shell_lexer.proofs.SpelledParts.{look_seen, inner_seen}
use Rattle.token_laws.proofs.theorems.bytes_are_spelled.Goals as goal

pub returns-clause-outside : goal.returns-clause-outside
returns-clause-outside c = λ len text rest byte. (look_seen len text (Byte byte rest), byte_sees false len byte text rest)

pub returns-clause-inside : goal.returns-clause-inside
returns-clause-inside c = λ len text rest byte. (inner_seen len text (Byte byte rest), byte_sees true len byte text rest)
