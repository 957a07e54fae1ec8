-- What is left of a text behind what is seen at its front.
use Rattle.std.proofs.Common.{◌≡◌, ℕ, true, false, [], ◌∷◌}
use Rattle.shell_lexer.specs.declared.sight.Sign.{Sign}
use Rattle.shell_lexer.specs.declared.token.RawPart.{RawPart}
use Rattle.shell_lexer.specs.Operators.{Passed, Operator, sight}
use Rattle.shell_lexer.specs.Parts.{Byte, Piece, AllArgs, DoubleQuote, Substitution, look, inner}
use Rattle.shell_lexer.specs.Text.{Bytes}
use Rattle.shell_lexer.proofs.Ahead.{Behind, ahead_behind, operator_ahead, piece_ahead, stands_ahead}
use Rattle.shell_lexer.proofs.SpelledOperators.{operator_seen}
use Rattle.shell_lexer.proofs.SpelledBytes.{byte_ahead}
use Rattle.shell_lexer.proofs.SpelledParts.{look_seen, inner_seen}
use Rattle.shell_lexer.proofs.Tiles.{fits, passed_ahead}

module _ (len : ℕ) (text : Bytes) where
  pub passed_rest : (t : Bytes) → sight len text ≡ Passed t → Behind text t
  passed_rest t h = ahead_behind text t (passed_ahead text t (fits len text (Passed t) h))

  pub operator_rest : (s : Sign) (t : Bytes) → sight len text ≡ Operator s t → Behind text t
  operator_rest s t h = ahead_behind text t (operator_ahead s text t (operator_seen len text t s h))

  pub byte_rest : (c : ℕ) (t : Bytes) → look len text ≡ Byte c t → Behind text t
  byte_rest c t h = ahead_behind text t (byte_ahead false c text t (look_seen len text (Byte c t) h))

  pub piece_rest : (p : RawPart) (t : Bytes) → look len text ≡ Piece p t → Behind text t
  piece_rest p t h = ahead_behind text t (piece_ahead false p text t (look_seen len text (Piece p t) h))

  pub all_rest : (t : Bytes) → look len text ≡ AllArgs t → Behind text t
  all_rest t h = ahead_behind text t (stands_ahead 36 (64 ∷ []) text t (look_seen len text (AllArgs t) h))

  pub double_rest : (t : Bytes) → look len text ≡ DoubleQuote t → Behind text t
  double_rest t h = ahead_behind text t (stands_ahead 34 [] text t (look_seen len text (DoubleQuote t) h))

  pub run_rest : (t : Bytes) → look len text ≡ Substitution t → Behind text t
  run_rest t h = ahead_behind text t (stands_ahead 36 (40 ∷ []) text t (look_seen len text (Substitution t) h).stands)

  pub inner_byte_rest : (c : ℕ) (t : Bytes) → inner len text ≡ Byte c t → Behind text t
  inner_byte_rest c t h = ahead_behind text t (byte_ahead true c text t (inner_seen len text (Byte c t) h))

  pub inner_piece_rest : (p : RawPart) (t : Bytes) → inner len text ≡ Piece p t → Behind text t
  inner_piece_rest p t h = ahead_behind text t (piece_ahead true p text t (inner_seen len text (Piece p t) h))

  pub inner_all_rest : (t : Bytes) → inner len text ≡ AllArgs t → Behind text t
  inner_all_rest t h = ahead_behind text t (stands_ahead 36 (64 ∷ []) text t (inner_seen len text (AllArgs t) h))

  pub inner_run_rest : (t : Bytes) → inner len text ≡ Substitution t → Behind text t
  inner_run_rest t h = ahead_behind text t (stands_ahead 36 (40 ∷ []) text t (inner_seen len text (Substitution t) h).stands)
