-- What the code saw at a place, as the tables have it.
use Rattle.std.specs.Prelude.{◌≡◌, ℕ, ◌+◌, ◌-◌, ◌<◌, ◌≤◌, true, false, length, drop, take, Option, Some}
use Rattle.std.specs.Prelude.{None, Result, IfOk}
use Rattle.shell_lexer.specs.declared.sight.Sight.{Sight}
use Rattle.shell_lexer.specs.declared.sight.Sight.TheVariants.{End, Passed, Operator, Wrong, Word}
use Rattle.shell_lexer.specs.declared.sight.Look.{Look}
use Rattle.shell_lexer.specs.declared.sight.Look.TheVariants.{Ends, Byte, Piece, AllArgs, DoubleQuote, Substitution}
use Rattle.shell_lexer.specs.declared.sight.Look.TheVariants.{Bad}
use Rattle.shell_lexer.specs.Text.{Bytes, head_is, skip, tail}
use Rattle.shell_lexer.specs.Operators as operators
use Rattle.shell_lexer.specs.Parts as parts

-- what the code saw, with the text behind each place
abbrev pub seen : Bytes → Sight → operators.Sight
seen text End = operators.End
seen text (Passed i) = operators.Passed (drop i text)
seen text (Operator s i) = operators.Operator s (drop i text)
seen text (Wrong f) = operators.Wrong f
seen text Word = operators.Word

-- the code saw what the table has, where it had the memory for it
abbrev pub Sees : {E : Type 0} → Bytes → operators.Sight → Result Sight E → Type 0
Sees text it result = IfOk result (λ s. seen text s ≡ it)

-- the place behind what was seen is further on
abbrev pub Further : ℕ → ℕ → Sight → Type 0
Further at len (Passed i) = (at < i) × (i ≤ len)
Further at len (Operator s i) = (at < i) × (i ≤ len)
Further at len _ = Unit {0}

-- what the code saw in a word, as the table has it
abbrev pub seen_look : Bytes → Look → parts.Look
seen_look text Ends = parts.Ends
seen_look text (Byte b i) = parts.Byte b (drop i text)
seen_look text (Piece p i) = parts.Piece p (drop i text)
seen_look text (AllArgs i) = parts.AllArgs (drop i text)
seen_look text (DoubleQuote i) = parts.DoubleQuote (drop i text)
seen_look text (Substitution i) = parts.Substitution (drop i text)
seen_look text (Bad f) = parts.Bad f

-- the code saw what the table has, where it had the memory for it
abbrev pub Shows : {E : Type 0} → Bytes → parts.Look → Result Look E → Type 0
Shows text it result = IfOk result (λ l. seen_look text l ≡ it)

-- the place behind what was seen in a word is further on
abbrev pub FurtherLook : ℕ → ℕ → Look → Type 0
FurtherLook at len (Byte b i) = (at < i) × (i ≤ len)
FurtherLook at len (Piece p i) = (at < i) × (i ≤ len)
FurtherLook at len (AllArgs i) = (at < i) × (i ≤ len)
FurtherLook at len (DoubleQuote i) = (at < i) × (i ≤ len)
FurtherLook at len (Substitution i) = (at < i) × (i ≤ len)
FurtherLook at len _ = Unit {0}

-- the text behind a place
abbrev pub rest_at : Bytes → Option ℕ → Option Bytes
rest_at text None = None
rest_at text (Some i) = Some (drop i text)

-- the place is this one or a later one
abbrev pub OnFrom : ℕ → ℕ → Option ℕ → Type 0
OnFrom at len None = Unit {0}
OnFrom at len (Some i) = (at ≤ i) × (i ≤ len)

-- the place behind the byte, where the byte is the next that counts
abbrev pub IsBehind : Bytes → ℕ → ℕ → Option ℕ → Type 0
IsBehind text at byte None = head_is byte (skip (drop at text)) ≡ false
IsBehind text at byte (Some end) =
    (at < end) × (end ≤ length text) × (head_is byte (skip (drop at text)) ≡ true)
    × (drop end text ≡ tail (skip (drop at text)))

-- the place of the next single quote, where there is one
abbrev pub IsQuoteEnd : Bytes → ℕ → Option ℕ → Type 0
IsQuoteEnd text at None = parts.has_quote (drop at text) ≡ false
IsQuoteEnd text at (Some end) =
    (at ≤ end) × (end < length text) × (parts.has_quote (drop at text) ≡ true)
    × (parts.quote_body (drop at text) ≡ take (end - at) (drop at text))
    × (parts.behind_quote (drop at text) ≡ drop (end + 1) text)
