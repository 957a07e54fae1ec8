-- Tokens whose words hold no substitution: where one stood, empty quotes stand.
use Rattle.std.specs.Prelude.{List, [], ◌∷◌}
use Rattle.shell_lexer.specs.declared.token.Token.{Token, roll-Token}
use Rattle.shell_lexer.specs.declared.token.TokenKind.{TokenKind, out-TokenKind}
use Rattle.shell_lexer.specs.declared.token.TokenKind.TheVariants as token
use Rattle.shell_lexer.specs.declared.token.RawPart.{RawPart, out-RawPart}
use Rattle.shell_lexer.specs.declared.token.RawPart.TheVariants as raw
use Rattle.shell_lexer.specs.declared.token.RawPart.TheOpen as o
use Rattle.shell_grammar.specs.Look.{Tokens}

-- a part, of which the kind is seen
abbrev pub part_without_runs : o.RawPart-F RawPart TokenKind Token → RawPart → RawPart
part_without_runs (o.Run at ts quoted) p = raw.Quoted []
part_without_runs _ p = p

-- the parts of a word
abbrev pub parts_without_runs : List RawPart → List RawPart
parts_without_runs [] = []
parts_without_runs (p ∷ ps) = part_without_runs (out-RawPart p) p ∷ parts_without_runs ps

-- the kind of a token
abbrev pub kind_without_runs : o.TokenKind-F RawPart TokenKind Token → TokenKind → TokenKind
kind_without_runs (o.Word ps) k = token.Word (parts_without_runs ps)
kind_without_runs _ k = k

-- a token, at its place
abbrev pub token_without_runs : Token → Token
token_without_runs t = roll-Token (record { at = t.at; kind = kind_without_runs (out-TokenKind t.kind) t.kind })

-- all of them
abbrev pub without_runs : Tokens → Tokens
without_runs [] = []
without_runs (t ∷ ts) = token_without_runs t ∷ without_runs ts
