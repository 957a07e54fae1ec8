-- Tokens in whose words the runs of plain bytes are longest, also in the words of substitutions, as they are in the
-- tokens of a text (POSIX.1-2017, XCU 2.3 Token Recognition).
use Rattle.std.specs.Prelude.{◌≡◌, ℕ, Bool, true, false, List, [], ◌∷◌, Some, None}
use Rattle.shell_syntax.specs.declared.syntax.Part.{Part}
use Rattle.shell_lexer.specs.declared.token.Token.{Token}
use Rattle.shell_lexer.specs.declared.token.TokenKind.{out-TokenKind}
use Rattle.shell_lexer.specs.declared.token.RawPart.{RawPart, out-RawPart}
use Rattle.shell_lexer.specs.declared.token.RawPart.TheOpen as o
use Rattle.token_laws.specs.LongestRuns.{plain_runs_are_longest}
use Rattle.shell_grammar.specs.Look.{Tokens, kind_word}
use Rattle.shell_grammar.specs.Reading.{plainly}

mutual
  pub data RunsAreLongest : Tokens → Type 0 where
    -- no token
    no_token : RunsAreLongest []
    -- an operator or a redirection, and further tokens
    other_token : {t : Token} {ts : Tokens} → kind_word (out-TokenKind t.kind) ≡ None → RunsAreLongest ts
        → RunsAreLongest (t ∷ ts)
    -- a word in which no plain run is empty or stands directly behind another, and further tokens
    word_token : {t : Token} {ts : Tokens} (parts : List RawPart) → kind_word (out-TokenKind t.kind) ≡ Some parts
        → plain_runs_are_longest false parts ≡ true → PartsAreLongest parts → RunsAreLongest ts
        → RunsAreLongest (t ∷ ts)

  -- in the tokens of each substitution among the parts of a word the runs are longest
  pub data PartsAreLongest : List RawPart → Type 0 where
    -- no part
    no_part : PartsAreLongest []
    -- a part without a substitution, and further parts
    other_part : {p : RawPart} {ps : List RawPart} (x : Part) → plainly (out-RawPart p) ≡ Some x → PartsAreLongest ps
        → PartsAreLongest (p ∷ ps)
    -- a substitution, and further parts
    substitution : {p : RawPart} {ps : List RawPart} (at : ℕ) (ts : Tokens) (quoted : Bool)
        → out-RawPart p ≡ o.Run at ts quoted → RunsAreLongest ts → PartsAreLongest ps → PartsAreLongest (p ∷ ps)
