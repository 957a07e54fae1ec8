-- What stands in a word, and in double quotes, by the next byte that counts (POSIX.1-2017, XCU 2.2 Quoting, 2.5
-- Parameters and Variables, 2.6.2 Parameter Expansion, 2.6.3 Command Substitution).
use Rattle.std.specs.Prelude.{ℕ, ◌-◌, Bool, true, false, if◌then◌else◌, ◌||◌, nat_eq, [], ◌∷◌, Option, Some, None}
use Rattle.script_names.specs.Ascii.{brace_close, colon, digit_zero, hyphen, paren_open, single_quote}
use Rattle.script_names.specs.Ascii.{dollar as dollar_byte}
use Rattle.shell_syntax.specs.declared.form.Form.TheVariants as form
use Rattle.shell_syntax.specs.declared.key.Key.{Key}
use Rattle.shell_syntax.specs.declared.key.Key.TheVariants.{Named, Arg, Count}
use Rattle.shell_lexer.specs.declared.fault.LexFault.{LexFault}
use Rattle.shell_lexer.specs.declared.fault.LexFault.TheVariants.{OpenQuote, OpenSubstitution, Unsupported}
use Rattle.shell_lexer.specs.declared.token.RawPart.{RawPart}
use Rattle.shell_lexer.specs.declared.token.RawPart.TheVariants.{Quoted, Param}
use Rattle.shell_lexer.specs.declared.byte_kind.ByteKind.{ByteKind}
use Rattle.shell_lexer.specs.declared.byte_kind.ByteKind.TheVariants.{Blank, Newline, Semi, Amp, Bar, Open, Close}
use Rattle.shell_lexer.specs.declared.byte_kind.ByteKind.TheVariants.{Less, Greater, Hash, Single, Double, Back}
use Rattle.shell_lexer.specs.declared.byte_kind.ByteKind.TheVariants.{Tick, Dollar, Brace, At, Special, Digit, Name}
use Rattle.shell_lexer.specs.declared.byte_kind.RunKind.TheVariants.{Names, Defaults}
use Rattle.shell_lexer.specs.Text.{Bytes, kind, skip, place, head_is, run, behind}

-- the end of the word, or in double quotes of the text; a byte that stands for itself; a part that holds no others;
-- `$@`; a double quote; `$(`; a fault
pub data Look : Type 0 where
  Ends : Look
  Byte : (byte : ℕ) (rest : Bytes) → Look
  Piece : (part : RawPart) (rest : Bytes) → Look
  AllArgs : (rest : Bytes) → Look
  DoubleQuote : (rest : Bytes) → Look
  Substitution : (rest : Bytes) → Look
  Bad : (fault : LexFault) → Look

-- what a table says of the bytes that count, of which the first has this offset: it goes by that byte, its kind and
-- the text behind it
abbrev pub by_first : (ℕ → ℕ → ByteKind → Bytes → Look) → ℕ → Bytes → Look
by_first table at [] = Ends
by_first table at (b ∷ rest) = table at b (kind b) rest

-- ---- parameters

-- a parameter form that is not supported, at its `$`
abbrev pub bad_param : ℕ → Look
bad_param at = Bad (Unsupported form.Param at)

-- `${`, a key and `}`
abbrev pub closed : Bool → ℕ → Key → Option Bytes → Bytes → Look
closed quoted at key default [] = Bad (OpenSubstitution at)
closed quoted at key default (b ∷ rest) =
    if nat_eq b brace_close then Piece (Param key default quoted) rest else bad_param at

-- behind `${`, a key and `:`
abbrev pub behind_colon : Bool → ℕ → Key → Bytes → Look
behind_colon quoted at key [] = Bad (OpenSubstitution at)
behind_colon quoted at key (b ∷ rest) =
    if nat_eq b hyphen then closed quoted at key (Some (run Defaults rest)) (skip (behind Defaults rest))
    else bad_param at

-- behind `${` and a name or a number: `}`, or `:-`, a default and `}`
abbrev pub behind_key : Bool → ℕ → Key → Bytes → Look
behind_key quoted at key [] = Bad (OpenSubstitution at)
behind_key quoted at key (b ∷ rest) =
    if nat_eq b colon then behind_colon quoted at key (skip rest) else closed quoted at key None (b ∷ rest)

-- `1` to `9`
abbrev pub number_key : Bool → ℕ → ℕ → Bytes → Look
number_key quoted at b rest =
    if nat_eq b digit_zero then bad_param at else behind_key quoted at (Arg (b - digit_zero)) (skip rest)

-- behind `${`, by the byte that comes next
abbrev pub braced_by : Bool → ℕ → ℕ → ByteKind → Bytes → Look
braced_by quoted at b Name rest = behind_key quoted at (Named (run Names (b ∷ rest))) (skip (behind Names (b ∷ rest)))
braced_by quoted at b Digit rest = number_key quoted at b rest
braced_by quoted at b Hash rest = closed quoted at Count None (skip rest)
braced_by quoted at b _ rest = bad_param at

-- behind `${`, from the next byte that counts on
abbrev pub braced : Bool → ℕ → Bytes → Look
braced quoted at [] = Bad (OpenSubstitution at)
braced quoted at (b ∷ rest) = braced_by quoted at b (kind b) rest

-- `$` and a name, of which the text begins with the first byte
abbrev pub named_part : Bool → Bytes → Look
named_part quoted text = Piece (Param (Named (run Names text)) None quoted) (behind Names text)

-- `$1` to `$9`
abbrev pub number_part : Bool → ℕ → ℕ → Bytes → Look
number_part quoted at b rest =
    if nat_eq b digit_zero then bad_param at else Piece (Param (Arg (b - digit_zero)) None quoted) rest

-- `$(`, unless another parenthesis follows
abbrev pub parenthesis : ℕ → Bytes → Look
parenthesis at rest = if head_is paren_open (skip rest) then Bad (Unsupported form.Arith at) else Substitution rest

-- `$` before a quote: outside double quotes the quote begins, and the form is not supported; inside it stands for
-- itself
abbrev pub before_quote : Bool → ℕ → Bytes → Look
before_quote false at rest = bad_param at
before_quote true at rest = Byte dollar_byte rest

-- behind `$`, by the byte that comes next: the text behind `$`, that byte, and the text behind it
abbrev pub dollar_by : Bool → ℕ → Bytes → ℕ → ByteKind → Bytes → Look
dollar_by quoted at rest b Open more = parenthesis at more
dollar_by quoted at rest b Brace more = braced quoted at (skip more)
dollar_by quoted at rest b Name more = named_part quoted (b ∷ more)
dollar_by quoted at rest b Digit more = number_part quoted at b more
dollar_by quoted at rest b Hash more = Piece (Param Count None quoted) more
dollar_by quoted at rest b At more = AllArgs more
dollar_by quoted at rest b Special more = bad_param at
dollar_by quoted at rest b Dollar more = bad_param at
dollar_by quoted at rest b Single more = before_quote quoted at rest
dollar_by quoted at rest b Double more = before_quote quoted at rest
dollar_by quoted at rest b _ more = Byte dollar_byte rest

-- behind `$`, from the next byte that counts on: the text behind `$`, and the same from that byte on
abbrev pub dollar : Bool → ℕ → Bytes → Bytes → Look
dollar quoted at rest [] = Byte dollar_byte rest
dollar quoted at rest (b ∷ more) = dollar_by quoted at rest b (kind b) more

-- ---- in a word

-- single quotes keep every byte up to the next one
abbrev pub has_quote : Bytes → Bool
has_quote [] = false
has_quote (b ∷ rest) = nat_eq b single_quote || has_quote rest

-- the bytes up to the next single quote
abbrev pub quote_body : Bytes → Bytes
quote_body [] = []
quote_body (b ∷ rest) = if nat_eq b single_quote then [] else b ∷ quote_body rest

-- the bytes behind the next single quote
abbrev pub behind_quote : Bytes → Bytes
behind_quote [] = []
behind_quote (b ∷ rest) = if nat_eq b single_quote then rest else behind_quote rest

-- a backslash quotes the next byte; at the text's end it is itself
abbrev pub escaped : ℕ → Bytes → Look
escaped b [] = Byte b []
escaped b (c ∷ rest) = Piece (Quoted (c ∷ [])) rest

-- by the first byte that counts, at its offset, and the text behind it
abbrev pub look_by : ℕ → ℕ → ByteKind → Bytes → Look
look_by at b Blank rest = Ends
look_by at b Newline rest = Ends
look_by at b Semi rest = Ends
look_by at b Amp rest = Ends
look_by at b Bar rest = Ends
look_by at b Open rest = Ends
look_by at b Close rest = Ends
look_by at b Less rest = Ends
look_by at b Greater rest = Ends
look_by at b Single rest =
    if has_quote rest then Piece (Quoted (quote_body rest)) (behind_quote rest) else Bad (OpenQuote at)
look_by at b Double rest = DoubleQuote rest
look_by at b Back rest = escaped b rest
look_by at b Tick rest = Bad (Unsupported form.Backquote at)
look_by at b Dollar rest = dollar false at rest (skip rest)
look_by at b _ rest = Byte b rest

-- by the bytes that count, of which the first has this offset
abbrev pub look_at : ℕ → Bytes → Look
look_at = by_first look_by

-- what stands at the front of a rest of a text of len bytes
abbrev pub look : ℕ → Bytes → Look
look len text = look_at (place len (skip text)) (skip text)

-- ---- in double quotes

-- what a backslash escapes there
abbrev pub is_escapable : ByteKind → Bool
is_escapable Double = true
is_escapable Back = true
is_escapable Tick = true
is_escapable Dollar = true
is_escapable _ = false

-- before any other byte a backslash is itself
abbrev pub inner_escaped : ℕ → Bytes → Look
inner_escaped b [] = Byte b []
inner_escaped b (c ∷ rest) = if is_escapable (kind c) then Byte c rest else Byte b (c ∷ rest)

-- by the first byte that counts, at its offset, and the text behind it
abbrev pub inner_by : ℕ → ℕ → ByteKind → Bytes → Look
inner_by at b Double rest = DoubleQuote rest
inner_by at b Back rest = inner_escaped b rest
inner_by at b Tick rest = Bad (Unsupported form.Backquote at)
inner_by at b Dollar rest = dollar true at rest (skip rest)
inner_by at b _ rest = Byte b rest

-- by the bytes that count, of which the first has this offset
abbrev pub inner_at : ℕ → Bytes → Look
inner_at = by_first inner_by

-- what stands at the front of a rest of a text of len bytes, in double quotes
abbrev pub inner : ℕ → Bytes → Look
inner len text = inner_at (place len (skip text)) (skip text)
