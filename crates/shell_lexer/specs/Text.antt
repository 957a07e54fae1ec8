-- Bytes as a shell reads them (POSIX.1-2017, XCU 2.2.1 Escape Character (Backslash), 2.3 Token Recognition): what a
-- byte is, and the bytes that count, which are all but those of joined lines.
use Rattle.std.specs.Prelude.{ℕ, ◌-◌, Bool, true, false, if◌then◌else◌, not, ◌&&◌, ◌||◌, nat_eq, List, [], ◌∷◌}
use Rattle.std.specs.Prelude.{length, Option, Some, None}
use Rattle.script_names.specs.Ascii.{ampersand, backquote, backslash, bar, brace_close, brace_open, commercial_at}
use Rattle.script_names.specs.Ascii.{dollar, double_quote, exclamation, greater, hash, hyphen, less, newline}
use Rattle.script_names.specs.Ascii.{paren_close, paren_open, question, semicolon, single_quote, space, star, tab}
use Rattle.script_names.specs.Ascii.{tilde}
use Rattle.script_names.specs.ShellNames.{is_digit, is_letter, is_name_byte}
use Rattle.shell_lexer.specs.declared.byte_kind.ByteKind.{ByteKind}
use Rattle.shell_lexer.specs.declared.byte_kind.ByteKind.TheVariants.{Blank, Newline, Semi, Amp, Bar, Open, Close}
use Rattle.shell_lexer.specs.declared.byte_kind.ByteKind.TheVariants.{Less, Greater, Hash, Single, Double, Back}
use Rattle.shell_lexer.specs.declared.byte_kind.ByteKind.TheVariants.{Tick, Dollar, Brace, At, Special, Digit}
use Rattle.shell_lexer.specs.declared.byte_kind.ByteKind.TheVariants.{Name, Other}
use Rattle.shell_lexer.specs.declared.byte_kind.RunKind.{RunKind}
use Rattle.shell_lexer.specs.declared.byte_kind.RunKind.TheVariants.{Blanks, Digits, Names, Defaults}

-- a text, or the rest of one
abbrev pub Bytes : Type 0
Bytes = List ℕ

-- space or tab
abbrev pub is_blank : ℕ → Bool
is_blank b = nat_eq b space || nat_eq b tab

-- `*`, `?`, `!` or `-`
abbrev pub is_special : ℕ → Bool
is_special b = nat_eq b star || nat_eq b question || nat_eq b exclamation || nat_eq b hyphen

-- a byte that a default may have: no newline, quote, backslash, backquote, `$`, brace or `~`
abbrev pub is_default_byte : ℕ → Bool
is_default_byte b =
    not (nat_eq b newline || nat_eq b single_quote || nat_eq b double_quote || nat_eq b backslash || nat_eq b backquote
    || nat_eq b dollar || nat_eq b brace_open || nat_eq b brace_close || nat_eq b tilde)

-- whether a run has the byte
abbrev pub passes : RunKind → ℕ → Bool
passes Blanks b = is_blank b
passes Digits b = is_digit b
passes Names b = is_name_byte b
passes Defaults b = is_default_byte b

-- what a byte is to the lexer that begins no blank, operator or comment
abbrev pub word_kind : ℕ → ByteKind
word_kind b =
    if nat_eq b single_quote then Single else (if nat_eq b double_quote then Double else
    (if nat_eq b backslash then Back else (if nat_eq b backquote then Tick else
    (if nat_eq b dollar then Dollar else (if nat_eq b brace_open then Brace else
    (if nat_eq b commercial_at then At else (if is_special b then Special else (if is_digit b then Digit else
    (if is_letter b then Name else Other)))))))))

-- what a byte is to the lexer
abbrev pub kind : ℕ → ByteKind
kind b =
    if is_blank b then Blank else (if nat_eq b newline then Newline else (if nat_eq b semicolon then Semi else
    (if nat_eq b ampersand then Amp else (if nat_eq b bar then Bar else (if nat_eq b paren_open then Open else
    (if nat_eq b paren_close then Close else (if nat_eq b less then Less else (if nat_eq b greater then Greater else
    (if nat_eq b hash then Hash else word_kind b)))))))))

-- the text from its next byte that counts on: a backslash directly before a newline vanishes with it
abbrev pub skip : Bytes → Bytes
skip [] = []
skip (a ∷ []) = a ∷ []
skip (a ∷ b ∷ rest) = if nat_eq a backslash && nat_eq b newline then skip rest else a ∷ b ∷ rest

-- the offset of a rest of a text of len bytes
abbrev pub place : ℕ → Bytes → ℕ
place len rest = len - length rest

-- the offset of its next byte that counts
abbrev pub offset : ℕ → Bytes → ℕ
offset len rest = place len (skip rest)

-- all bytes but the first
abbrev pub tail : Bytes → Bytes
tail [] = []
tail (b ∷ rest) = rest

-- whether the first byte is this one
abbrev pub head_is : ℕ → Bytes → Bool
head_is b [] = false
head_is b (a ∷ rest) = nat_eq a b

-- the text behind one byte and what comes then, where the byte is the first
abbrev pub behind_next : ℕ → (Bytes → Option Bytes) → Bytes → Option Bytes
behind_next b more [] = None
behind_next b more (a ∷ rest) = if nat_eq a b then more rest else None

-- the text behind these bytes, where they are the next that count, one after another
abbrev pub behind_bytes : Bytes → Bytes → Option Bytes
behind_bytes [] text = Some text
behind_bytes (b ∷ bytes) text = behind_next b (behind_bytes bytes) (skip text)

-- the bytes that count, each with the text behind it
abbrev pub cells : Bytes → List (ℕ × Bytes)
cells [] = []
cells (a ∷ []) = (a, []) ∷ []
cells (a ∷ b ∷ rest) = if nat_eq a backslash && nat_eq b newline then cells rest else (a, b ∷ rest) ∷ cells (b ∷ rest)

-- the longest run of bytes that pass a test
abbrev pub run_of : (ℕ → Bool) → List (ℕ × Bytes) → Bytes
run_of test [] = []
run_of test (c ∷ cs) = if test c.0 then c.0 ∷ run_of test cs else []

-- the text behind that run
abbrev pub behind_run : (ℕ → Bool) → Bytes → List (ℕ × Bytes) → Bytes
behind_run test text [] = text
behind_run test text (c ∷ cs) = if test c.0 then behind_run test c.1 cs else text

-- the longest run of a kind at the front of a text, and the text behind it
abbrev pub run : RunKind → Bytes → Bytes
run which text = run_of (passes which) (cells text)

-- the text behind the longest run of a kind
abbrev pub behind : RunKind → Bytes → Bytes
behind which text = behind_run (passes which) text (cells text)

-- whether a word ends before a byte of this kind: a blank or the beginning of an operator
abbrev pub is_word_end : ByteKind → Bool
is_word_end Blank = true
is_word_end Newline = true
is_word_end Semi = true
is_word_end Amp = true
is_word_end Bar = true
is_word_end Open = true
is_word_end Close = true
is_word_end Less = true
is_word_end Greater = true
is_word_end _ = false

-- whether a word ends before the text
abbrev pub ends_word : Bytes → Bool
ends_word [] = true
ends_word (b ∷ rest) = is_word_end (kind b)
