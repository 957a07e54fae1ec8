-- What stands where a token may begin and is no operator (POSIX.1-2017, XCU 2.3 Token Recognition): by the bytes that
-- stand there, where joined lines are left out but in comments. src/theorems.rt proves that the table sees a word, and
-- passes over a blank or a comment, exactly where one is spelled so.
use Rattle.std.specs.Prelude.{◌≡◌, ℕ, Bool, true, false, not, nat_eq, [], ◌∷◌, ◌++◌, codes}
use Rattle.std.specs.List.{list_all}
use Rattle.script_names.specs.Ascii.{hash, newline}
use Rattle.shell_lexer.specs.Text.{Bytes, is_blank}
use Rattle.shell_lexer.specs.Tiled.{at_line_end}
use Rattle.shell_lexer.specs.Spelling.{Stands}
use Rattle.shell_lexer.specs.SpelledEnds.{begins_operator}
use Rattle.shell_lexer.specs.SpelledFaults.{IsNumbered}

-- A blank; or a comment, which goes from `#` to the newline, or to the text's end, whatever stands in it.
pub data IsPassed (text rest : Bytes) : Type 0 where
  blank : {byte : ℕ} → is_blank byte ≡ true → Stands (byte ∷ []) text rest → IsPassed text rest
  comment : (bytes : Bytes) → Stands (codes "#") text (bytes ++ rest)
      → list_all (λ b. not (nat_eq b newline)) bytes ≡ true → at_line_end rest ≡ true → IsPassed text rest

-- A word begins with a byte that is no blank, no `#` and not the first of an operator; and digits are no word where
-- they are the number before `<` or `>`.
pub record IsWordBegin (text : Bytes) : Type 0 where
  pub byte : ℕ
  pub rest : Bytes
  pub stands : Stands (byte ∷ []) text rest
  pub no_blank : is_blank byte ≡ false
  pub no_comment : nat_eq byte hash ≡ false
  pub no_operator : begins_operator byte ≡ false
  pub no_input : (from behind : Bytes) → IsNumbered (codes "<") text from behind → ⊥
  pub no_output : (from behind : Bytes) → IsNumbered (codes ">") text from behind → ⊥
