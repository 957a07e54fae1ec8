-- The text that tokens are printed as: each behind a blank, but a newline (POSIX.1-2017, XCU 2.2 Quoting, 2.3 Token
-- Recognition, 2.6 Word Expansions).
use Rattle.std.specs.Prelude.{List, ◌∷◌, codes}
use Rattle.std.specs.List.{flat_map}
use Rattle.script_names.specs.Ascii.{space}
use Rattle.shell_syntax.specs.PrintedParts.{Text, quoted_text, param_text, run_text}
use Rattle.shell_syntax.specs.Printed.{redirect_text}
use Rattle.shell_lexer.specs.declared.token.Token.{Token}
use Rattle.shell_lexer.specs.declared.token.TokenKind.{TokenKind}
use Rattle.shell_lexer.specs.declared.token.RawPart.{RawPart}
use Rattle.shell_lexer.specs.declared.token.RawPart.TheOpen as seen
use Rattle.shell_lexer.specs.declared.token.RawPart.TheFolds.{fold-RawPart, fold-TokenKind, fold-Token}

-- ---- one layer, from the texts of the members

-- a part of a word
abbrev pub raw_layer : seen.RawPart-F Text Text Text → Text
raw_layer (seen.Plain bytes) = bytes
raw_layer (seen.Quoted bytes) = quoted_text bytes
raw_layer (seen.Param key default quoted) = param_text key default quoted
raw_layer seen.All = codes "\"$@\""
raw_layer (seen.Run at tokens quoted) = run_text (flat_map (λ t. t) tokens) quoted

-- what kind of token it is
abbrev pub kind_layer : seen.TokenKind-F Text Text Text → Text
kind_layer (seen.Word parts) = space ∷ flat_map (λ p. p) parts
kind_layer seen.Newline = codes "\n"
kind_layer seen.Semi = codes " ;"
kind_layer seen.DoubleSemi = codes " ;;"
kind_layer seen.AndAnd = codes " &&"
kind_layer seen.OrOr = codes " ||"
kind_layer seen.Bar = codes " |"
kind_layer seen.LeftParen = codes " ("
kind_layer seen.RightParen = codes " )"
kind_layer (seen.Redirect which) = redirect_text which

-- a token, wherever it stands
abbrev pub token_layer : seen.Token-F Text Text Text → Text
token_layer t = t.kind

-- ---- whole tokens

-- a part of a word
abbrev pub raw_text : RawPart → Text
raw_text = fold-RawPart Text Text Text raw_layer kind_layer token_layer

-- what kind of token it is
abbrev pub kind_text : TokenKind → Text
kind_text = fold-TokenKind Text Text Text raw_layer kind_layer token_layer

-- a token
abbrev pub token_text : Token → Text
token_text = fold-Token Text Text Text raw_layer kind_layer token_layer

-- tokens, one after another
abbrev pub tokens_text : List Token → Text
tokens_text tokens = flat_map token_text tokens
