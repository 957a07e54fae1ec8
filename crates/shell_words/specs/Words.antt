-- A word after its expansions, letter by letter (POSIX.1-2017, XCU 2.6).
use Rattle.std.specs.Prelude.{ℕ, Bool, false, List, [], ◌∷◌, ◌++◌, map, nat_eq, ◌||◌, ◌&&◌, if◌then◌else◌}
use Rattle.std.specs.List.{list_any}
use Rattle.script_names.specs.Ascii.{bracket_close, bracket_open, newline, question, space, star, tab}
use Rattle.shell_words.specs.declared.letter.Letter.{Letter}
use Rattle.shell_words.specs.declared.letter.Letter.TheVariants.{Quote, Quoted, Plain, Split}
use Rattle.shell_words.specs.Pieces.{PieceParts}

-- a byte with the mark of its piece: quoted, split, or plain
abbrev pub marked : Bool → Bool → ℕ → Letter
marked quoted split b = if quoted then Quoted b else (if split then Split b else Plain b)

-- the letters of a piece: its bytes with its mark. A quoted piece begins with a letter of its own, so that one
-- without bytes is seen
abbrev pub letters_of : PieceParts → List Letter
letters_of p = (if p.quoted then Quote ∷ [] else []) ++ map (marked p.quoted p.split) p.text

-- a word: the letters of its pieces, in order
abbrev pub word : List PieceParts → List Letter
word [] = []
word (p ∷ pieces) = letters_of p ++ word pieces

-- a blank: a space, tab or newline that is split. Quoted and plain bytes never are
abbrev pub is_blank : Letter → Bool
is_blank Quote = false
is_blank (Quoted b) = false
is_blank (Plain b) = false
is_blank (Split b) = nat_eq b space || nat_eq b tab || nat_eq b newline

-- the given byte, and not quoted
abbrev pub is_unquoted : ℕ → Letter → Bool
is_unquoted byte Quote = false
is_unquoted byte (Quoted b) = false
is_unquoted byte (Plain b) = nat_eq b byte
is_unquoted byte (Split b) = nat_eq b byte

-- the byte of a letter, where it has one
abbrev pub byte_of : Letter → List ℕ
byte_of Quote = []
byte_of (Quoted b) = b ∷ []
byte_of (Plain b) = b ∷ []
byte_of (Split b) = b ∷ []

-- the bytes of some letters, in order
abbrev pub bytes_of : List Letter → List ℕ
bytes_of [] = []
bytes_of (x ∷ rest) = byte_of x ++ bytes_of rest

-- whether some letters have an active glob byte: an unquoted `*` or `?`, or an unquoted `[` with an unquoted `]`
-- behind it
abbrev pub has_glob : List Letter → Bool
has_glob [] = false
has_glob (x ∷ rest) =
    is_unquoted star x || is_unquoted question x
    || (is_unquoted bracket_open x && list_any (is_unquoted bracket_close) rest)
    || has_glob rest
