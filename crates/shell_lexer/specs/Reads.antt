-- What an answer of the scanner says.
use Rattle.std.specs.Prelude.{◌≡◌, ℕ, ◌<◌, ◌≤◌, ◌⊎◌, true, List, [], ◌++◌, length, drop, Result, Ok, Err, Some}
use Rattle.std.specs.Prelude.{None}
use Rattle.shell_lexer.specs.declared.fault.LexFault.{LexFault}
use Rattle.shell_lexer.specs.declared.sight.ByteNote.{ByteNote}
use Rattle.shell_lexer.specs.declared.token.Token.{Token}
use Rattle.shell_lexer.specs.declared.token.RawPart.{RawPart}
use Rattle.shell_lexer.specs.Depth.{too_deep}
use Rattle.shell_lexer.specs.Text.{Bytes}
use Rattle.shell_lexer.specs.Parts.{look, Ends}
use Rattle.shell_lexer.specs.declared.token.TokenKind.TheVariants as token
use Rattle.shell_lexer.specs.Late.{late}
use Rattle.shell_lexer.specs.Reading.{Out, Whole, Stop, Read, token_at, IsItems, IsWord, IsInner, IsSub}
use Rattle.shell_lexer.specs.Lexed.{Caused}

-- Readings of a text from a place on, with the limit of `lex`: the tokens inside depth substitutions, of which the
-- innermost began at `from`
abbrev pub ItemsFrom : Bytes → ℕ → ℕ → ℕ → Out (List Token) → Type 0
ItemsFrom text depth from at q = IsItems too_deep (length text) depth from 0 (drop at text) q

-- a word
abbrev pub WordFrom : Bytes → ℕ → ℕ → Out Read → Type 0
WordFrom text depth at q = IsWord too_deep (length text) depth [] (drop at text) q

-- what stands in double quotes that began at `from`
abbrev pub InnerFrom : Bytes → ℕ → ℕ → ℕ → Out Read → Type 0
InnerFrom text depth from at q = IsInner too_deep (length text) depth from true [] (drop at text) q

-- a substitution that began at `from`
abbrev pub SubFrom : Bytes → ℕ → ℕ → ℕ → Out (List Token) → Type 0
SubFrom text depth from at q = IsSub too_deep (length text) depth from (drop at text) q

-- the tokens from a place on, and the place behind them
abbrev pub ItemsRead : Bytes → ℕ → ℕ → ℕ → Result (List Token × ℕ) LexFault → Type 0
ItemsRead text depth from at (Ok v) =
    (at ≤ v.1) × (v.1 ≤ length text) × ItemsFrom text depth from at (Whole v.0 (drop v.1 text))
ItemsRead text depth from at (Err e) = Caused (λ fault. ItemsFrom text depth from at (Stop fault)) e

-- the tokens of a substitution, from its first one on, and the place behind it
abbrev pub SubRead : Bytes → ℕ → ℕ → ℕ → Result (List Token × ℕ) LexFault → Type 0
SubRead text depth from at (Ok v) =
    (at ≤ v.1) × (v.1 ≤ length text) × SubFrom text depth from at (Whole v.0 (drop v.1 text))
SubRead text depth from at (Err e) = Caused (λ fault. SubFrom text depth from at (Stop fault)) e

-- a word with its notes, and the place behind it, which is further on where the word isn't at its end
abbrev pub WordRead : Bytes → ℕ → ℕ → Result (List RawPart × List ByteNote × ℕ) LexFault → Type 0
WordRead text depth at (Ok v) =
    (at ≤ v.2) × (v.2 ≤ length text) × WordFrom text depth at (Whole (v.0, v.1) (drop v.2 text))
    × ((look (length text) (drop at text) ≡ Ends → ⊥) → at < v.2)
WordRead text depth at (Err e) = Caused (λ fault. WordFrom text depth at (Stop fault)) e

-- what stands in double quotes, added to the parts and notes of the word
abbrev pub InnerRead : Bytes → ℕ → ℕ → ℕ → List RawPart → List RawPart → List ByteNote → List ByteNote
    → Result ℕ LexFault → Type 0
InnerRead text depth from at old new before after (Ok end) =
    (at ≤ end) × (end ≤ length text)
    × ((v : Read) × (new ≡ old ++ v.0) × (after ≡ before ++ v.1)
    × InnerFrom text depth from at (Whole v (drop end text)))
InnerRead text depth from at old new before after (Err e) =
    Caused (λ fault. InnerFrom text depth from at (Stop fault)) e

-- the first fault of a word from a place on, which begins at `here`: that of a part that is no whole part or not
-- supported, or a form that is looked for once the word is whole
abbrev pub WordFails : Bytes → ℕ → ℕ → ℕ → LexFault → Type 0
WordFails text depth at here fault =
    WordFrom text depth at (Stop fault)
    ⊎ ((v : Read) × (rest : Bytes) × WordFrom text depth at (Whole v rest) × (late depth here v.1 ≡ Some fault))

-- the token of a word from a place on, which begins at `here`
abbrev pub TokenRead : Bytes → ℕ → ℕ → ℕ → Result (Token × ℕ) LexFault → Type 0
TokenRead text depth at here (Ok v) =
    (v.1 ≤ length text) × ((look (length text) (drop at text) ≡ Ends → ⊥) → at < v.1)
    × ((w : Read) × (v.0 ≡ token_at here (token.Word w.0)) × WordFrom text depth at (Whole w (drop v.1 text))
    × (late depth here w.1 ≡ None))
TokenRead text depth at here (Err e) = Caused (WordFails text depth at here) e
