-- The laws that src/theorems.rt proves.
use Rattle.std.specs.Prelude.{◌≡◌, ℕ, Bool, ◌++◌, Some}
use Rattle.shell_syntax.specs.declared.script.Script.{Script}
use Rattle.shell_syntax.specs.declared.syntax.Command.{Command}
use Rattle.shell_syntax.specs.Printed.{first_line, script_text}
use Rattle.shell_lexer.specs.declared.token.Lexed.{Lexed}
use Rattle.shell_lexer.specs.FirstLine.{first_line as line_of, behind_line, interpreter}
use Rattle.shell_lexer.specs.Lexed.{Cut, CutBy}
use Rattle.shell_lexer.specs.Text.{Bytes}
use Rattle.shell_grammar.specs.Look.{Tokens}
use Rattle.shell_grammar.specs.Spelling.{SpellsWithin}
use Rattle.shell_printing.specs.Zeroed.{zeroed, zeroed_tokens}
use Rattle.shell_printing.specs.PrintedTokens.{script_tokens}
use Rattle.shell_printing.specs.Runs.{RunsAreLongest}
use Rattle.shell_printing.specs.TokenTexts.{tokens_text}

-- Tokens that are the same but for their offsets spell, within 64 levels, scripts that are the same but for theirs.
abbrev pub OffsetsDoNotMatter : Type 0
OffsetsDoNotMatter =
    (end other : ℕ) (ts us : Tokens) (body : Command)
    → SpellsWithin end ts body → zeroed_tokens ts ≡ zeroed_tokens us
    → (again : Command) × SpellsWithin other us again × (zeroed again ≡ zeroed body)

-- In the tokens of a text that is cut, by whatever limit of substitutions, the runs of the words are longest.
abbrev pub CutRunsAreLongest : Type 0
CutRunsAreLongest = (deep : ℕ → Bool) (text : Bytes) (l : Lexed) → CutBy deep text l → RunsAreLongest l.tokens

-- Where some text spells a script, and no token is too deep, the tokens of the printed script spell, wherever they
-- stand, the same script but for its offsets, and none of them is too deep.
abbrev pub PrintedTokensSpell : Type 0
PrintedTokensSpell =
    (text : Bytes) (l : Lexed) (body : Command) (end : ℕ) (us : Tokens)
    → Cut text l → SpellsWithin l.end l.tokens body → zeroed_tokens us ≡ zeroed_tokens (script_tokens body)
    → (again : Command) × SpellsWithin end us again × (zeroed again ≡ zeroed body)

-- Where any tokens in whose words the runs are longest spell a script, tokens that are those of the printed script but
-- for their offsets spell the same script but for its offsets.
abbrev pub PrintedTokensSpellAgain : Type 0
PrintedTokensSpellAgain =
    (end other : ℕ) (ts us : Tokens) (body : Command)
    → RunsAreLongest ts → SpellsWithin end ts body → zeroed_tokens us ≡ zeroed_tokens (script_tokens body)
    → (again : Command) × SpellsWithin other us again × (zeroed again ≡ zeroed body)

-- The first line of a printed script is one, asks for `-e` where the script is strict, and ends before the other texts.
abbrev pub PrintedFirstLinesAreRead : Type 0
PrintedFirstLinesAreRead =
    (strict : Bool) (rest : Bytes)
    → (interpreter (line_of (first_line strict ++ rest)) ≡ Some strict)
    × (behind_line (first_line strict ++ rest) ≡ rest)

-- The text of a printed script is its first line and the texts of its tokens, one after another.
abbrev pub PrintedTextsAreTokens : Type 0
PrintedTextsAreTokens =
    (script : Script) → script_text script ≡ first_line script.strict ++ tokens_text (script_tokens script.body)

-- A script that some text spells, of which no token is too deep, is printed so that its text is cut into tokens that
-- are those of the printed script but for their offsets, and spell within 64 levels the same script but for its
-- offsets.
abbrev pub PrintedScriptsReadBack : Type 0
PrintedScriptsReadBack =
    (text : Bytes) (l : Lexed) (script : Script)
    → Cut text l → SpellsWithin l.end l.tokens script.body
    → (cut : Lexed) × (again : Command)
    × Cut (script_text script) cut × (cut.strict ≡ script.strict)
    × (zeroed_tokens cut.tokens ≡ zeroed_tokens (script_tokens script.body))
    × SpellsWithin cut.end cut.tokens again × (zeroed again ≡ zeroed script.body)
