-- What stands at the front of tokens (POSIX.1-2017, XCU 2.4 Reserved Words, 2.10.1 Shell Grammar Lexical Conventions;
-- XBD 3.235 Name).
use Rattle.std.specs.Prelude.{ℕ, Bool, true, false, List, [], ◌∷◌, Option, Some, None, codes}
use Rattle.std.specs.Prelude.{if◌then◌else◌, ◌&&◌, eqb}
use Rattle.std.specs.List.{list_any}
use Rattle.std.specs.Str.{bytes_eq}
use Rattle.script_names.specs.Ascii.{equals}
use Rattle.script_names.specs.ShellNames.{is_shell_name}
use Rattle.shell_grammar.specs.declared.look.Look.{Look}
use Rattle.shell_grammar.specs.declared.look.Look.TheVariants.{AtEnd, Newline, Semi, DoubleSemi, AndAnd, OrOr, Bar}
use Rattle.shell_grammar.specs.declared.look.Look.TheVariants.{LeftParen, RightParen, Redirection, Keyword, Name}
use Rattle.shell_grammar.specs.declared.look.Look.TheVariants.{Assignment, Other}
use Rattle.shell_grammar.specs.declared.look.Reserved.{Reserved}
use Rattle.shell_grammar.specs.declared.look.Reserved.TheVariants.{Open, Close, Bang, If, Then, Elif, Else, Fi, For}
use Rattle.shell_grammar.specs.declared.look.Reserved.TheVariants.{In, Do, Done, While, Until, Case, Esac}
use Rattle.shell_lexer.specs.declared.token.Token.{Token}
use Rattle.shell_lexer.specs.declared.token.TokenKind.{TokenKind, out-TokenKind}
use Rattle.shell_lexer.specs.declared.token.RawPart.{RawPart, out-RawPart}
use Rattle.shell_lexer.specs.declared.token.RawPart.TheOpen as o

-- a string of bytes
abbrev pub Text : Type 0
Text = List ℕ

-- tokens, in order
abbrev pub Tokens : Type 0
Tokens = List Token

-- the reserved word that these bytes are (XCU 2.4)
abbrev pub reserved : Text → Option Reserved
reserved w =
    if bytes_eq w (codes "{") then Some Open else
    (if bytes_eq w (codes "}") then Some Close else
    (if bytes_eq w (codes "!") then Some Bang else
    (if bytes_eq w (codes "if") then Some If else
    (if bytes_eq w (codes "then") then Some Then else
    (if bytes_eq w (codes "elif") then Some Elif else
    (if bytes_eq w (codes "else") then Some Else else
    (if bytes_eq w (codes "fi") then Some Fi else
    (if bytes_eq w (codes "for") then Some For else
    (if bytes_eq w (codes "in") then Some In else
    (if bytes_eq w (codes "do") then Some Do else
    (if bytes_eq w (codes "done") then Some Done else
    (if bytes_eq w (codes "while") then Some While else
    (if bytes_eq w (codes "until") then Some Until else
    (if bytes_eq w (codes "case") then Some Case else
    (if bytes_eq w (codes "esac") then Some Esac else None)))))))))))))))

-- the bytes up to the first `=`
abbrev pub up_to_equals : Text → Text
up_to_equals [] = []
up_to_equals (b ∷ bs) = if eqb b equals then [] else b ∷ up_to_equals bs

-- a name (XBD 3.235), and a `=` behind it: what stands before the first `=` is a name
abbrev pub begins_assignment : Text → Bool
begins_assignment w = list_any (λ b. eqb b equals) w && is_shell_name (up_to_equals w)

-- a word that begins with plain bytes: an assignment begins with a name and `=`
abbrev pub begun_look : Text → Look
begun_look w = if begins_assignment w then Assignment else Other

-- a word of plain bytes alone: a reserved word, a name, or what its beginning says
abbrev pub whole_look : Text → Option Reserved → Look
whole_look w (Some which) = Keyword which
whole_look w None = if is_shell_name w then Name else begun_look w

-- a word by its parts, of which the plain ones are seen
abbrev pub seen_look : o.RawPart-F RawPart TokenKind Token → Bool → Look
seen_look (o.Plain w) true = whole_look w (reserved w)
seen_look (o.Plain w) false = begun_look w
seen_look _ alone = Other

-- no further part
abbrev pub none_left : List RawPart → Bool
none_left [] = true
none_left (p ∷ ps) = false

-- a word by its first part, and by whether it has others
abbrev pub first_look : o.RawPart-F RawPart TokenKind Token → List RawPart → Look
first_look r ps = seen_look r (none_left ps)

-- a word by its parts
abbrev pub word_look : List RawPart → Look
word_look [] = Other
word_look (p ∷ ps) = first_look (out-RawPart p) ps

-- what a token looks like
abbrev pub kind_look : o.TokenKind-F RawPart TokenKind Token → Look
kind_look (o.Word ps) = word_look ps
kind_look o.Newline = Newline
kind_look o.Semi = Semi
kind_look o.DoubleSemi = DoubleSemi
kind_look o.AndAnd = AndAnd
kind_look o.OrOr = OrOr
kind_look o.Bar = Bar
kind_look o.LeftParen = LeftParen
kind_look o.RightParen = RightParen
kind_look (o.Redirect which) = Redirection which

-- what stands first among the tokens; at their end, that they end
abbrev pub look : Tokens → Look
look [] = AtEnd
look (t ∷ ts) = kind_look (out-TokenKind t.kind)

-- the parts of the word that stands there
abbrev pub kind_word : o.TokenKind-F RawPart TokenKind Token → Option (List RawPart)
kind_word (o.Word ps) = Some ps
kind_word _ = None

-- the parts of the word that stands first, if a word stands there
abbrev pub word : Tokens → Option (List RawPart)
word [] = None
word (t ∷ ts) = kind_word (out-TokenKind t.kind)

-- the tokens behind the first
abbrev pub behind : Tokens → Tokens
behind [] = []
behind (t ∷ ts) = ts

-- the offset of the first token, or where the tokens end
abbrev pub place : ℕ → Tokens → ℕ
place end [] = end
place end (t ∷ ts) = t.at
