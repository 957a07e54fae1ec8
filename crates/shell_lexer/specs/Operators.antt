-- What stands where a token may begin, by the next byte that counts (POSIX.1-2017, XCU 2.3 Token Recognition, 2.7
-- Redirection, 2.10.2 Shell Grammar Rules). A longest operator is taken. A redirection is one token with its number
-- and its word.
use Rattle.std.specs.Prelude.{ℕ, if◌then◌else◌, ◌&&◌, ◌||◌, nat_eq, [], ◌∷◌, Option, Some}
use Rattle.std.specs.Prelude.{None, codes}
use Rattle.std.specs.Str.{bytes_eq}
use Rattle.script_names.specs.Ascii.{ampersand, bar, digit_one, digit_two, newline, paren_open, semicolon}
use Rattle.script_names.specs.Ascii.{greater as greater_byte, less as less_byte}
use Rattle.shell_syntax.specs.declared.redirect.Redirect.{Redirect}
use Rattle.shell_syntax.specs.declared.redirect.Redirect.TheVariants.{OutNull, ErrNull, InNull, OutToErr, ErrToOut}
use Rattle.shell_syntax.specs.declared.form.Form.TheVariants as form
use Rattle.shell_lexer.specs.declared.fault.LexFault.{LexFault}
use Rattle.shell_lexer.specs.declared.fault.LexFault.TheVariants.{Unsupported}
use Rattle.shell_lexer.specs.declared.byte_kind.ByteKind.{ByteKind}
use Rattle.shell_lexer.specs.declared.byte_kind.ByteKind.TheVariants.{Blank, Newline, Semi, Amp, Bar, Open, Close}
use Rattle.shell_lexer.specs.declared.byte_kind.ByteKind.TheVariants.{Less, Greater, Hash, Digit}
use Rattle.shell_lexer.specs.declared.byte_kind.RunKind.TheVariants.{Blanks, Digits}
use Rattle.shell_lexer.specs.declared.sight.Sign.{Sign}
use Rattle.shell_lexer.specs.declared.sight.Sign.TheVariants as sign
use Rattle.shell_lexer.specs.Text.{Bytes, kind, skip, place, tail, head_is, behind_bytes, run, behind, ends_word}

-- the end of the text; a blank or a comment; an operator; a form that is not supported; a word
pub data Sight : Type 0 where
  End : Sight
  Passed : (rest : Bytes) → Sight
  Operator : (which : Sign) (rest : Bytes) → Sight
  Wrong : (fault : LexFault) → Sight
  Word : Sight

-- a comment goes on up to the newline, whatever stands before it
abbrev pub after_line : Bytes → Bytes
after_line [] = []
after_line (b ∷ rest) = if nat_eq b newline then b ∷ rest else after_line rest

-- ---- redirections

-- what the number before `>` redirects: none or 1, standard output; 2, standard error
abbrev pub out_to : Bytes → Option Redirect
out_to number =
    if bytes_eq number [] || bytes_eq number (codes "1") then Some OutNull
    else (if bytes_eq number (codes "2") then Some ErrNull else None)

-- what the number before `<` redirects: none or 0, standard input
abbrev pub in_from : Bytes → Option Redirect
in_from number = if bytes_eq number [] || bytes_eq number (codes "0") then Some InNull else None

-- what is copied by the number before `>&` and the digit behind it
abbrev pub copy_of : Bytes → ℕ → Option Redirect
copy_of number b =
    if (bytes_eq number [] || bytes_eq number (codes "1")) && nat_eq b digit_two then Some OutToErr
    else (if bytes_eq number (codes "2") && nat_eq b digit_one then Some ErrToOut else None)

-- the redirection where it is one and its word is whole, else the form that is not supported, at the place of `<` or
-- `>`
abbrev pub redirected : ℕ → Option Redirect → Option Bytes → Sight
redirected at None rest = Wrong (Unsupported form.Redirect at)
redirected at (Some which) None = Wrong (Unsupported form.Redirect at)
redirected at (Some which) (Some rest) = Operator (sign.Redirect which) rest

-- the text behind a word, where the word ends there
abbrev pub whole_word : Option Bytes → Option Bytes
whole_word None = None
whole_word (Some rest) = if ends_word (skip rest) then Some rest else None

-- the text behind the word `/dev/null`, which may stand behind blanks
abbrev pub null_word : Bytes → Option Bytes
null_word text = whole_word (behind_bytes (codes "/dev/null") (behind Blanks text))

-- `>&` and a digit that is a whole word
abbrev pub copied : ℕ → Bytes → Bytes → Sight
copied at number [] = Wrong (Unsupported form.Redirect at)
copied at number (b ∷ rest) = redirected at (copy_of number b) (whole_word (Some rest))

-- behind `<`
abbrev pub less : ℕ → Bytes → Bytes → Sight
less at number rest =
    if head_is less_byte (skip rest) then Wrong (Unsupported form.Heredoc at)
    else redirected at (in_from number) (null_word rest)

-- behind `>`
abbrev pub greater : ℕ → Bytes → Bytes → Sight
greater at number rest =
    if head_is greater_byte (skip rest) then redirected at (out_to number) (null_word (tail (skip rest)))
    else (if head_is ampersand (skip rest) then copied at number (skip (tail (skip rest)))
    else redirected at (out_to number) (null_word rest))

-- behind digits: a redirection where `<` or `>` stands directly there, else a word
abbrev pub numbered_by : ℕ → Bytes → ByteKind → Bytes → Sight
numbered_by at number Less rest = less at number rest
numbered_by at number Greater rest = greater at number rest
numbered_by at number _ rest = Word

-- behind digits, from the next byte that counts on
abbrev pub numbered : ℕ → Bytes → Bytes → Sight
numbered len number [] = Word
numbered len number (b ∷ rest) = numbered_by (place len (b ∷ rest)) number (kind b) rest

-- what digits begin that are the first bytes of the text
abbrev pub after_digits : ℕ → Bytes → Sight
after_digits len text = numbered len (run Digits text) (skip (behind Digits text))

-- ---- all operators

-- the longer operator, where this byte comes next
abbrev pub twice : ℕ → Bytes → Sight → Sight → Sight
twice b next longer shorter = if head_is b next then longer else shorter

-- by the first byte that counts, at its offset, and the text behind it
abbrev pub sight_by : ℕ → ℕ → ℕ → ByteKind → Bytes → Sight
sight_by len at b Blank rest = Passed rest
sight_by len at b Hash rest = Passed (after_line rest)
sight_by len at b Newline rest = Operator sign.Newline rest
sight_by len at b Semi rest =
    twice semicolon (skip rest) (Operator sign.DoubleSemi (tail (skip rest))) (Operator sign.Semi rest)
sight_by len at b Amp rest =
    twice ampersand (skip rest) (Operator sign.AndAnd (tail (skip rest))) (Wrong (Unsupported form.Background at))
sight_by len at b Bar rest = twice bar (skip rest) (Operator sign.OrOr (tail (skip rest))) (Operator sign.Bar rest)
sight_by len at b Open rest = twice paren_open (skip rest) (Wrong (Unsupported form.Arith at)) (Operator sign.LeftParen rest)
sight_by len at b Close rest = Operator sign.RightParen rest
sight_by len at b Less rest = less at [] rest
sight_by len at b Greater rest = greater at [] rest
sight_by len at b Digit rest = after_digits len (b ∷ rest)
sight_by len at b _ rest = Word

-- by the bytes that count, of which the first has this offset
abbrev pub sight_at : ℕ → ℕ → Bytes → Sight
sight_at len at [] = End
sight_at len at (b ∷ rest) = sight_by len at b (kind b) rest

-- what stands at the front of a rest of a text of len bytes
abbrev pub sight : ℕ → Bytes → Sight
sight len text = sight_at len (place len (skip text)) (skip text)
