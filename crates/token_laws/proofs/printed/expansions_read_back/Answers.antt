use Rattle.shell_lexer.specs.Parts.{Piece}
use Rattle.shell_lexer.proofs.SpelledParts.{look_piece, inner_piece, look_seen, inner_seen}
use Rattle.token_laws.proofs.PrintedParams.{param_is_one_part, all_is_one_part}
use Rattle.token_laws.proofs.printed.expansions_read_back.Goals as goal

pub returns-clause-param : goal.returns-clause-param
returns-clause-param c =
    param_is_one_part
    (λ len text rest it. (look_seen len text (Piece it rest), look_piece len text rest it))
    (λ len text rest it. (inner_seen len text (Piece it rest), inner_piece len text rest it))

pub returns-clause-all : goal.returns-clause-all
returns-clause-all c = all_is_one_part
