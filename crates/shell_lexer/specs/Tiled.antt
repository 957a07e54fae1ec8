-- How a text is made up of its tokens: each byte is in a blank, a comment, a joined line or exactly one token.
use Rattle.std.specs.Prelude.{◌≡◌, ℕ, ◌+◌, ◌≤◌, Bool, true, not, nat_eq, List, [], ◌∷◌, ◌++◌, length}
use Rattle.std.specs.List.{list_all}
use Rattle.script_names.specs.Ascii.{backslash, hash, newline}
use Rattle.shell_lexer.specs.declared.token.Token.{Token}
use Rattle.shell_lexer.specs.Text.{Bytes, is_blank}

-- whether a line ends before the text: at its end, or at a newline
abbrev pub at_line_end : Bytes → Bool
at_line_end [] = true
at_line_end (b ∷ rest) = nat_eq b newline

-- The rest of a text, whose first byte has the offset `at`, is blanks, comments, joined lines and these tokens, one
-- behind another. A token has at least one byte, and its offset is that of its first.
pub data IsTiled : ℕ → Bytes → List Token → Type 0 where
  ends : {at : ℕ} → IsTiled at [] []
  joined : {at : ℕ} {rest : Bytes} {ts : List Token} → IsTiled (at + 2) rest ts
      → IsTiled at (backslash ∷ newline ∷ rest) ts
  blank : {at b : ℕ} {rest : Bytes} {ts : List Token}
      → is_blank b ≡ true → IsTiled (at + 1) rest ts → IsTiled at (b ∷ rest) ts
  comment : {at : ℕ} (bytes : Bytes) {rest : Bytes} {ts : List Token}
      → list_all (λ b. not (nat_eq b newline)) bytes ≡ true → at_line_end rest ≡ true
      → IsTiled (at + 1 + length bytes) rest ts → IsTiled at (hash ∷ (bytes ++ rest)) ts
  token : {at b : ℕ} (bytes : Bytes) {rest : Bytes} {t : Token} {ts : List Token}
      → t.at ≡ at → IsTiled (at + 1 + length bytes) rest ts → IsTiled at (b ∷ (bytes ++ rest)) (t ∷ ts)

-- the tokens' offsets rise strictly, the first at this one or above
abbrev pub RiseFrom : ℕ → List Token → Type 0
RiseFrom at [] = Unit {0}
RiseFrom at (t ∷ ts) = (at ≤ t.at) × RiseFrom (t.at + 1) ts
