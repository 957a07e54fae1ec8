-- The laws that src/printed.rt proves: how what shell_syntax prints is cut into tokens again. The readings are those
-- of specs/Reading.antt, with any limit of substitutions, at any place of any text.
use Rattle.std.specs.Prelude.{◌≡◌, ℕ, suc, Bool, true, false, ◌||◌, nat_eq, List, [], ◌∷◌, ◌++◌, Option, None, codes}
use Rattle.std.specs.List.{flat_map}
use Rattle.script_names.specs.Ascii.{backslash, newline, paren_close, paren_open, space}
use Rattle.shell_syntax.specs.declared.key.Key.{Key}
use Rattle.shell_syntax.specs.PrintedParts.{double_quote, quoted_text, param_text, run_text}
use Rattle.shell_syntax.specs.Printed.{redirect_text}
use Rattle.shell_lexer.specs.declared.sight.ByteNote.{ByteNote}
use Rattle.shell_lexer.specs.declared.sight.Sign.{Sign}
use Rattle.shell_lexer.specs.declared.sight.Sign.TheVariants as sign
use Rattle.shell_lexer.specs.declared.token.Token.{Token}
use Rattle.shell_lexer.specs.declared.token.RawPart.{RawPart}
use Rattle.shell_lexer.specs.declared.token.RawPart.TheVariants as part
use Rattle.shell_lexer.specs.declared.token.TokenKind.TheVariants as token
use Rattle.shell_lexer.specs.Text.{Bytes}
use Rattle.shell_lexer.specs.Spelling.{IsNotNext}
use Rattle.shell_lexer.specs.SpelledParts.{IsParam}
use Rattle.shell_lexer.specs.Late.{late}
use Rattle.shell_lexer.specs.Operators.{Word, sight}
use Rattle.shell_lexer.specs.Reading.{Out, Whole, Read, grown, behind as preceded, plain_run, token_at, kind_of_sign}
use Rattle.shell_lexer.specs.Reading.{opened, closes, IsItems, IsWord, IsSub}

-- ---- parts of words

-- The text is cut into one part: whatever plain run stands before it, and whatever is read of the word behind it, with
-- the text between them the part is read between them.
abbrev pub IsOnePart : RawPart → Bytes → Type 0
IsOnePart part text =
    (deep : ℕ → Bool) (len depth : ℕ) (run rest : Bytes) (q : Out Read)
    → IsWord deep len depth [] rest q
    → (notes : List ByteNote) × IsWord deep len depth run (text ++ rest) (grown (plain_run run ++ part ∷ []) notes q)

-- quoted bytes are one quoted part, whatever they are
abbrev pub QuotedIsOnePart : Type 0
QuotedIsOnePart = (bytes : Bytes) → IsOnePart (part.Quoted bytes) (quoted_text bytes)

-- a parameter expansion that some text spells is one part, in double quotes where it is quoted
abbrev pub ParamIsOnePart : Type 0
ParamIsOnePart =
    (key : Key) (default : Option Bytes) (quoted : Bool) (spelled behind : Bytes)
    → IsParam key default spelled behind → IsOnePart (part.Param key default quoted) (param_text key default quoted)

-- `"$@"` is one part
abbrev pub AllIsOnePart : Type 0
AllIsOnePart = IsOnePart part.All (codes "\"$@\"")

-- A substitution is one part: where its body does not begin with a parenthesis, and is read, with the `)` behind it,
-- as these tokens.
abbrev pub RunIsOnePart : Type 0
RunIsOnePart =
    (deep : ℕ → Bool) (len depth : ℕ) (run body rest : Bytes) (quoted : Bool) (tokens : List Token) (q : Out Read)
    → IsNotNext paren_open (body ++ (space ∷ paren_close ∷ (double_quote quoted ++ rest)))
    → ((at : ℕ)
    → IsSub deep len depth at (body ++ (space ∷ paren_close ∷ (double_quote quoted ++ rest)))
    (Whole tokens (double_quote quoted ++ rest)))
    → IsWord deep len depth [] rest q
    → (at : ℕ) × (notes : List ByteNote)
    × IsWord deep len depth run (run_text body quoted ++ rest)
    (grown (plain_run run ++ part.Run at tokens quoted ∷ []) notes q)

-- ---- words

-- the text of a part that holds no substitution
abbrev pub raw_text : RawPart → Bytes
raw_text (part.Plain bytes) = bytes
raw_text (part.Quoted bytes) = quoted_text bytes
raw_text (part.Param key default quoted) = param_text key default quoted
raw_text part.All = codes "\"$@\""
raw_text _ = []

-- whether no part is a substitution
abbrev pub holds_no_run : List RawPart → Bool
holds_no_run [] = true
holds_no_run (part.Plain bytes ∷ ps) = holds_no_run ps
holds_no_run (part.Quoted bytes ∷ ps) = holds_no_run ps
holds_no_run (part.Param key default quoted ∷ ps) = holds_no_run ps
holds_no_run (part.All ∷ ps) = holds_no_run ps
holds_no_run (_ ∷ ps) = false

-- whether the last of these bytes is this one
abbrev pub is_last : ℕ → Bytes → Bool
is_last b [] = false
is_last b (a ∷ []) = nat_eq a b
is_last b (a ∷ c ∷ bytes) = is_last b (c ∷ bytes)

-- whether the last part is plain and ends in a backslash, as a word may at a text's end alone
abbrev pub ends_in_backslash : List RawPart → Bool
ends_in_backslash [] = false
ends_in_backslash (part.Plain bytes ∷ []) = is_last backslash bytes
ends_in_backslash (_ ∷ ps) = ends_in_backslash ps

-- whether a blank, a newline or nothing stands there
abbrev pub is_apart : Bytes → Bool
is_apart [] = true
is_apart (b ∷ text) = nat_eq b space || nat_eq b newline

-- A word without substitutions that some text spells is printed so that it is read as the same parts, wherever a
-- blank, a newline or nothing stands behind it; where it ends in a plain backslash, nothing.
abbrev pub WordsReadBack : Type 0
WordsReadBack =
    (deep : ℕ → Bool) (len depth : ℕ) (spelled rest : Bytes) (v : Read)
    → IsWord deep len depth [] spelled (Whole v rest) → holds_no_run v.0 ≡ true
    → (all : ℕ) (behind : Bytes) → is_apart behind ≡ true → (ends_in_backslash v.0 ≡ true → behind ≡ [])
    → (notes : List ByteNote) × IsWord deep all depth [] (flat_map raw_text v.0 ++ behind) (Whole (v.0, notes) behind)

-- ---- tokens

-- whether no part is `$@`
abbrev pub holds_no_all : List RawPart → Bool
holds_no_all [] = true
holds_no_all (part.All ∷ ps) = false
holds_no_all (_ ∷ ps) = holds_no_all ps

-- A word as a token, likewise: one that is read somewhere, and in which no form is found that is looked for once a
-- word is whole, is printed behind a blank so that it is cut as one token of the same parts, inside as many
-- substitutions.
abbrev pub WordTokensReadBack : Type 0
WordTokensReadBack =
    (deep : ℕ → Bool) (len depth at : ℕ) (spelled rest : Bytes) (v : Read)
    → sight len spelled ≡ Word → IsWord deep len depth [] spelled (Whole v rest) → late depth at v.1 ≡ None
    → holds_no_run v.0 ≡ true → holds_no_all v.0 ≡ true
    → (all «from» parens : ℕ) (behind : Bytes) (q : Out (List Token))
    → is_apart behind ≡ true → (ends_in_backslash v.0 ≡ true → behind ≡ [])
    → IsItems deep all depth «from» parens behind q
    → (place : ℕ)
    × IsItems deep all depth «from» parens (space ∷ (flat_map raw_text v.0 ++ behind))
    (preceded (token_at place (token.Word v.0) ∷ []) q)

-- the word `"$@"`, too
abbrev pub AllTokensReadBack : Type 0
AllTokensReadBack =
    (deep : ℕ → Bool) (all depth «from» parens : ℕ) (behind : Bytes) (q : Out (List Token))
    → is_apart behind ≡ true → IsItems deep all depth «from» parens behind q
    → (place : ℕ)
    × IsItems deep all depth «from» parens (space ∷ (codes "\"$@\"" ++ behind))
    (preceded (token_at place (token.Word (part.All ∷ [])) ∷ []) q)

-- ---- operators

-- an operator or a redirection as it is printed: behind a blank, but a newline
abbrev pub operator_text : Sign → Bytes
operator_text sign.Newline = codes "\n"
operator_text sign.Semi = codes " ;"
operator_text sign.DoubleSemi = codes " ;;"
operator_text sign.AndAnd = codes " &&"
operator_text sign.OrOr = codes " ||"
operator_text sign.Bar = codes " |"
operator_text sign.LeftParen = codes " ("
operator_text sign.RightParen = codes " )"
operator_text (sign.Redirect which) = redirect_text which

-- An operator or a redirection is one token where a blank, a newline or nothing stands behind it, unless it closes a
-- substitution.
abbrev pub OperatorsReadBack : Type 0
OperatorsReadBack =
    (deep : ℕ → Bool) (len depth «from» parens : ℕ) (which : Sign) (rest : Bytes) (q : Out (List Token))
    → is_apart rest ≡ true → closes depth parens which ≡ false
    → IsItems deep len depth «from» (opened which parens) rest q
    → (at : ℕ)
    × IsItems deep len depth «from» parens (operator_text which ++ rest)
    (preceded (token_at at (kind_of_sign which) ∷ []) q)

-- a printed parenthesis that no other matches closes a substitution
abbrev pub SubstitutionsClose : Type 0
SubstitutionsClose =
    (deep : ℕ → Bool) (len depth «from» : ℕ) (rest : Bytes)
    → IsItems deep len (suc depth) «from» 0 (codes " )" ++ rest) (Whole [] rest)
