-- The laws that src/theorems.rt proves: what holds of cuts, and that what the tables see in a text is what is spelled
-- there, so that the tables need not be believed where these speak. That a double quote or a `$(` stays open, and how
-- deep a `$(` is, has to be read in the rules of a reading.
use Rattle.std.specs.Prelude.{◌≡◌, ◌↔◌, ◌⊎◌, ℕ, ◌+◌, Bool, true, false, not, ◌||◌, nat_eq, List, [], ◌∷◌, ◌++◌, map}
use Rattle.std.specs.Prelude.{length}
use Rattle.std.specs.Prelude.{Some, None, codes}
use Rattle.std.specs.List.{list_all}
use Rattle.script_names.specs.Ascii.{backquote, backslash, dollar, double_quote, newline, nul}
use Rattle.shell_syntax.specs.declared.redirect.Redirect.{Redirect}
use Rattle.shell_lexer.specs.declared.sight.Sign.{Sign}
use Rattle.shell_lexer.specs.declared.sight.Sign.TheVariants as sign
use Rattle.shell_lexer.specs.declared.fault.LexFault.{LexFault}
use Rattle.shell_lexer.specs.declared.fault.LexFault.TheVariants.{Deep}
use Rattle.shell_lexer.specs.declared.token.Lexed.{Lexed}
use Rattle.shell_lexer.specs.declared.token.Token.{Token}
use Rattle.shell_lexer.specs.declared.token.RawPart.{RawPart}
use Rattle.shell_lexer.specs.declared.token.RawPart.TheVariants as part
use Rattle.shell_lexer.specs.declared.token.TokenKind.TheVariants as token
use Rattle.shell_lexer.specs.declared.sight.ByteNote.{ByteNote}
use Rattle.shell_lexer.specs.declared.sight.ByteNote.TheVariants as note
use Rattle.token_laws.specs.LongestRuns.{plain_runs_are_longest, quoted_runs_are_longest}
use Rattle.shell_lexer.specs.Reading.{Whole, Read, IsItems, IsInner, IsWord, token_at}
use Rattle.shell_lexer.specs.Text.{Bytes, skip, place, offset, ends_word}
use Rattle.shell_lexer.specs.FirstLine.{behind_line, interpreter, nul_of}
use Rattle.shell_lexer.specs.Lexed.{CutBy, Cut, CutAtAnyDepth, Faulty}
use Rattle.token_laws.specs.Moved.{AreMoved}
use Rattle.shell_lexer.specs.Operators.{End, Passed, Operator, Wrong, Word, sight}
use Rattle.token_laws.specs.SpelledBegins.{IsPassed, IsWordBegin}
use Rattle.shell_lexer.specs.SpelledBytes.{IsByte}
use Rattle.shell_lexer.specs.Parts.{Look, Ends, Byte, AllArgs, DoubleQuote, Piece, Substitution, Bad}
use Rattle.shell_lexer.specs.SpelledEnds.{AtTextEnd, IsWordEnd}
use Rattle.shell_lexer.specs.SpelledFaults.{IsWrong, IsBad, IsFirstNul, FaultStands}
use Rattle.shell_lexer.specs.SpelledLine.{IsFirstLine}
use Rattle.shell_lexer.specs.SpelledParts.{IsPiece, IsSubstitution}
use Rattle.shell_lexer.specs.Tiled.{IsTiled, RiseFrom}
use Rattle.shell_lexer.specs.Spelling.{IsOperator, IsRedirected, Stands}

-- ---- cuts

-- a text is cut into tokens in one way
abbrev pub OneCut : Type 0
OneCut = (text : Bytes) (l other : Lexed) → Cut text l → Cut text other → l ≡ other

-- a text is cut into tokens in one way, without a limit of substitutions too
abbrev pub OneCutAtAnyDepth : Type 0
OneCutAtAnyDepth = (text : Bytes) (l other : Lexed) → CutAtAnyDepth text l → CutAtAnyDepth text other → l ≡ other

-- a cut by the limit is one without it
abbrev pub CutsWithinLimit : Type 0
CutsWithinLimit = (text : Bytes) (l : Lexed) → Cut text l → CutAtAnyDepth text l

-- a text that has a cut without the limit has no fault but a substitution that is too deep
abbrev pub OnlyDeepIsRefused : Type 0
OnlyDeepIsRefused =
    (text : Bytes) (l : Lexed) (fault : LexFault)
    → CutAtAnyDepth text l → Faulty text fault → (at : ℕ) × (fault ≡ Deep at)

-- a cut has each byte behind the first line in a blank, a comment, a joined line or exactly one token
abbrev pub CutsAreTiled : Type 0
CutsAreTiled =
    (text : Bytes) (l : Lexed)
    → CutAtAnyDepth text l → IsTiled (place (length text) (behind_line text)) (behind_line text) l.tokens

-- the offsets of the tokens of a text that is cut rise strictly
abbrev pub OffsetsRise : Type 0
OffsetsRise = (text : Bytes) (l : Lexed) → CutAtAnyDepth text l → RiseFrom 0 l.tokens

-- ---- two texts with a newline between

-- whether a text's last byte is this one
abbrev pub last_is : ℕ → Bytes → Bool
last_is b [] = false
last_is b (a ∷ []) = nat_eq a b
last_is b (a ∷ c ∷ rest) = last_is b (c ∷ rest)

-- a text, of which the first byte has this offset, is read as these tokens, outside every substitution
abbrev pub IsReadAt : (ℕ → Bool) → ℕ → Bytes → List Token → Type 0
IsReadAt deep at text ts = IsItems deep (at + length text) 0 0 0 text (Whole ts [])

-- a cut with a newline behind its text, and behind that a text with these tokens
abbrev pub with_line : Lexed → Bytes → List Token → Lexed
with_line l text ts = record {
  strict = l.strict;
  tokens = l.tokens ++ token_at l.end token.Newline ∷ ts;
  end = l.end + 1 + length text;
}

-- A cut text, a newline and a second text are cut, by each limit of substitutions, into the tokens of the cut, the
-- newline's, and those of the second text as they are read behind the newline. The first text has a newline, so that
-- more than its first line stands before the newline between; and it does not end in a backslash, with which this
-- newline could be a joined line.
abbrev pub TextsAreCutApart : Type 0
TextsAreCutApart =
    (deep : ℕ → Bool) (text second : Bytes) (l : Lexed) (ts : List Token)
    → CutBy deep text l → list_all (λ b. not (nat_eq b newline)) text ≡ false → last_is backslash text ≡ false
    → nul_of second ≡ None → IsReadAt deep (length text + 1) second ts
    → CutBy deep (text ++ newline ∷ second) (with_line l second ts)

-- a text is read the same way at an offset greater by so many bytes, but that its tokens' offsets are greater too
abbrev pub ReadingsMove : Type 0
ReadingsMove =
    (deep : ℕ → Bool) (bytes at : ℕ) (text : Bytes) (ts : List Token)
    → IsReadAt deep at text ts → (us : List Token) × AreMoved bytes ts us × IsReadAt deep (at + bytes) text us

-- so the tokens behind the newline are those of the second text alone, moved
abbrev pub TextsAloneAreCutApart : Type 0
TextsAloneAreCutApart =
    (deep : ℕ → Bool) (text second : Bytes) (l : Lexed) (ts : List Token)
    → CutBy deep text l → list_all (λ b. not (nat_eq b newline)) text ≡ false → last_is backslash text ≡ false
    → nul_of second ≡ None → IsReadAt deep 0 second ts
    → (us : List Token) × AreMoved (length text + 1) ts us
    × CutBy deep (text ++ newline ∷ second) (with_line l second us)

-- ---- double quotes

-- a byte that stands for itself in double quotes, whatever stands round it: no NUL, `"`, `$`, backquote or backslash
abbrev pub is_literal : ℕ → Bool
is_literal b =
    not (nat_eq b nul || nat_eq b double_quote || nat_eq b dollar || nat_eq b backslash || nat_eq b backquote)

-- what a word's notes have for so many bytes in double quotes
abbrev pub gaps : Bytes → List ByteNote
gaps bytes = map (λ b. note.Gap) bytes

-- double quotes round such bytes, wherever they stand, are one part that has these bytes, newlines too
abbrev pub QuotesAreOnePart : Type 0
QuotesAreOnePart =
    (deep : ℕ → Bool) (len depth from : ℕ) (bytes rest : Bytes) → list_all is_literal bytes ≡ true
    → IsInner deep len depth from true [] (bytes ++ double_quote ∷ rest)
    (Whole (part.Quoted bytes ∷ [], gaps bytes) rest)

-- the tokens of a script of so many bytes that has one word behind the line `#!/bin/sh`
abbrev pub one_word : List RawPart → ℕ → Lexed
one_word parts end = record { strict = false; tokens = token_at 10 (token.Word parts) ∷ []; end = end }

-- a script that is such quotes behind the line `#!/bin/sh` is cut into the word of that part
abbrev pub QuotesAreCut : Type 0
QuotesAreCut =
    (bytes : Bytes) → list_all is_literal bytes ≡ true
    → Cut (codes "#!/bin/sh\n\"" ++ (bytes ++ codes "\"")) (one_word (part.Quoted bytes ∷ []) (12 + length bytes))

-- ---- runs

-- of the parts of a word no plain run is empty, and none stands directly behind another
abbrev pub PlainRunsAreLongest : Type 0
PlainRunsAreLongest =
    (deep : ℕ → Bool) (len depth : ℕ) (text rest : Bytes) (v : Read)
    → IsWord deep len depth [] text (Whole v rest) → plain_runs_are_longest false v.0 ≡ true

-- what stands in double quotes is one empty part, or no quoted run of its parts is empty, and none stands directly
-- behind another
abbrev pub QuotedRunsAreLongest : Type 0
QuotedRunsAreLongest =
    (deep : ℕ → Bool) (len depth from : ℕ) (text rest : Bytes) (v : Read)
    → IsInner deep len depth from true [] text (Whole v rest)
    → (v.0 ≡ part.Quoted [] ∷ []) ⊎ (quoted_runs_are_longest false v.0 ≡ true)

-- ---- what is seen is what is spelled

-- what begins at a place is an operator, or a whole redirection, exactly where its spelling stands there and no
-- longer operator does
abbrev pub OperatorsAreLongest : Type 0
OperatorsAreLongest =
    (len : ℕ) (text rest : Bytes) (which : Sign) → (sight len text ≡ Operator which rest) ↔ IsOperator which text rest

-- what begins at a place is a redirection exactly where one of its spellings stands there
abbrev pub RedirectionsAreSpelled : Type 0
RedirectionsAreSpelled =
    (len : ℕ) (text rest : Bytes) (which : Redirect)
    → (sight len text ≡ Operator (sign.Redirect which) rest) ↔ IsRedirected which text rest

-- what the table sees in a word, or in double quotes, is a part that holds no others exactly where that part is
-- spelled there
abbrev pub PartsAreSpelled : (ℕ → Bytes → Look) → Bool → Type 0
PartsAreSpelled sees inside =
    (len : ℕ) (text rest : Bytes) (part : RawPart)
    → (sees len text ≡ Piece part rest) ↔ IsPiece inside part text rest

-- what the table sees is `$@` exactly where it stands
abbrev pub AllArgsAreSpelled : (ℕ → Bytes → Look) → Type 0
AllArgsAreSpelled sees = (len : ℕ) (text rest : Bytes) → (sees len text ≡ AllArgs rest) ↔ Stands (codes "$@") text rest

-- what the table sees is the beginning of a substitution exactly where one is spelled
abbrev pub SubstitutionsAreSpelled : (ℕ → Bytes → Look) → Type 0
SubstitutionsAreSpelled sees =
    (len : ℕ) (text rest : Bytes) → (sees len text ≡ Substitution rest) ↔ IsSubstitution text rest

-- what the table sees is a double quote exactly where one stands
abbrev pub DoubleQuotesAreSpelled : (ℕ → Bytes → Look) → Type 0
DoubleQuotesAreSpelled sees =
    (len : ℕ) (text rest : Bytes) → (sees len text ≡ DoubleQuote rest) ↔ Stands (codes "\"") text rest

-- what the table sees in a word, or in double quotes, is a byte that stands for itself exactly where one is spelled
abbrev pub BytesAreSpelled : (ℕ → Bytes → Look) → Bool → Type 0
BytesAreSpelled sees inside =
    (len : ℕ) (text rest : Bytes) (byte : ℕ) → (sees len text ≡ Byte byte rest) ↔ IsByte inside text byte rest

-- a blank or a comment is passed over exactly where one is spelled
abbrev pub PassedAreSpelled : Type 0
PassedAreSpelled = (len : ℕ) (text rest : Bytes) → (sight len text ≡ Passed rest) ↔ IsPassed text rest

-- what begins at a place is a word exactly where one is spelled
abbrev pub WordsAreSpelled : Type 0
WordsAreSpelled = (len : ℕ) (text : Bytes) → (sight len text ≡ Word) ↔ IsWordBegin text

-- a first line is accepted, with `-e` or without, exactly where it is spelled as one
abbrev pub FirstLinesAreSpelled : Type 0
FirstLinesAreSpelled = (line : Bytes) (strict : Bool) → (interpreter line ≡ Some strict) ↔ IsFirstLine strict line

-- what the table sees is an end exactly where one is spelled
abbrev pub EndsAreSpelled : (ℕ → Bytes → Look) → (Bytes → Type 0) → Type 0
EndsAreSpelled sees IsEnd = (len : ℕ) (text : Bytes) → (sees len text ≡ Ends) ↔ IsEnd text

-- the word of a redirection ends exactly where a word's end is spelled
abbrev pub RedirectedWordsEnd : Type 0
RedirectedWordsEnd = (text : Bytes) → (ends_word (skip text) ≡ true) ↔ IsWordEnd text

-- the tokens end exactly where the text does
abbrev pub TokensEnd : Type 0
TokensEnd = (len : ℕ) (text : Bytes) → (sight len text ≡ End) ↔ AtTextEnd text

-- where a token may begin, a form that is not supported is seen exactly where it is spelled, with its offset
abbrev pub WrongFormsAreSpelled : Type 0
WrongFormsAreSpelled =
    (len : ℕ) (text : Bytes) (fault : LexFault) → (sight len text ≡ Wrong fault) ↔ IsWrong len text fault

-- what the table sees in a word, or in double quotes, is a fault exactly where that fault is spelled, with its offset
abbrev pub FaultsAreSpelled : (ℕ → Bytes → Look) → Bool → Type 0
FaultsAreSpelled sees inside =
    (len : ℕ) (text : Bytes) (fault : LexFault)
    → (sees len text ≡ Bad fault) ↔ IsBad inside (offset len text) text fault

-- a NUL is found exactly where the first one stands
abbrev pub NulsAreSpelled : Type 0
NulsAreSpelled = (text : Bytes) (at : ℕ) → (nul_of text ≡ Some at) ↔ IsFirstNul at text

-- a first line is refused exactly where it is spelled as none that is accepted
abbrev pub OtherFirstLinesAreRefused : Type 0
OtherFirstLinesAreRefused = (line : Bytes) → (interpreter line ≡ None) ↔ ((strict : Bool) → IsFirstLine strict line → ⊥)

-- the offset of a text's fault is that of the bytes by which the fault is named
abbrev pub FaultsStand : Type 0
FaultsStand = (text : Bytes) (fault : LexFault) → Faulty text fault → FaultStands text fault
