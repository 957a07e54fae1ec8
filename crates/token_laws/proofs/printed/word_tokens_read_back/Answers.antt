use Rattle.std.proofs.Common.{true, false}
use Rattle.token_laws.specs.Laws.{PartsAreSpelled}
use Rattle.shell_lexer.specs.Parts.{Piece, AllArgs, DoubleQuote, look, inner}
use Rattle.shell_lexer.proofs.SpelledParts.{look_piece, inner_piece, look_all, look_double, look_seen, inner_seen}
use Rattle.token_laws.proofs.PrintedParams.{param_is_one_part, all_is_one_part}
use Rattle.token_laws.proofs.PrintedTokens.{word_tokens, all_tokens}
use Rattle.token_laws.proofs.printed.word_tokens_read_back.Goals as goal

pub returns-clause-words : goal.returns-clause-words
returns-clause-words c =
    let outside : PartsAreSpelled look false = λ len text rest it. (look_seen len text (Piece it rest), look_piece len text rest it) in
    let inside : PartsAreSpelled inner true = λ len text rest it. (inner_seen len text (Piece it rest), inner_piece len text rest it) in
    word_tokens outside inside
    (λ len text rest. (look_seen len text (AllArgs rest), look_all len text rest))
    (λ len text rest. (look_seen len text (DoubleQuote rest), look_double len text rest))
    (param_is_one_part outside inside) all_is_one_part

pub returns-clause-all : goal.returns-clause-all
returns-clause-all c = all_tokens
