-- Where a word ends (POSIX.1-2017, XCU 2.3 Token Recognition): by the bytes that stand there, where joined lines are
-- left out. src/theorems.rt proves that the tables see an end exactly where one is spelled so.
use Rattle.std.specs.Prelude.{◌≡◌, ℕ, Bool, true, List, [], ◌∷◌, codes}
use Rattle.std.specs.List.{list_any}
use Rattle.shell_lexer.specs.Text.{Bytes, skip, head_is, is_blank}
use Rattle.shell_lexer.specs.Spelling.{Stands}

-- the text ends, or has nothing but joined lines left
abbrev pub AtTextEnd : Bytes → Type 0
AtTextEnd text = skip text ≡ []

-- all operators of the standard, also those that are not supported (Base Definitions, 3 Definitions, Control Operator
-- and Redirection Operator)
abbrev pub operators : List Bytes
operators =
    codes "&" ∷ codes "&&" ∷ codes "(" ∷ codes ")" ∷ codes ";" ∷ codes ";;" ∷ codes "\n" ∷ codes "|" ∷ codes "||"
    ∷ codes "<" ∷ codes ">" ∷ codes ">|" ∷ codes "<<" ∷ codes ">>" ∷ codes "<&" ∷ codes ">&" ∷ codes "<<-"
    ∷ codes "<>" ∷ []

-- whether a byte can be the first of an operator
abbrev pub begins_operator : ℕ → Bool
begins_operator b = list_any (head_is b) operators

-- A word ends at the text's end, before a blank, and before a byte that can be the first of an operator (XCU 2.3): a
-- line each. So it ends before the newline, and before the parenthesis that closes a substitution.
pub data IsWordEnd (text : Bytes) : Type 0 where
  text_ends : AtTextEnd text → IsWordEnd text
  blank : {byte : ℕ} {rest : Bytes} → is_blank byte ≡ true → Stands (byte ∷ []) text rest → IsWordEnd text
  operator : {byte : ℕ} {rest : Bytes} → begins_operator byte ≡ true → Stands (byte ∷ []) text rest → IsWordEnd text
