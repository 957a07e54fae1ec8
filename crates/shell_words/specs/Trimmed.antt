-- What a command substitution gives (POSIX.1-2017, XCU 2.6.3 Command Substitution).
use Rattle.std.specs.Prelude.{◌≡◌, ℕ, List, [], ◌∷◌, ◌++◌, replicate}
use Rattle.script_names.specs.Ascii.{newline}

-- a text without the newlines at its end: what is left and some newlines are the text, and what is left does not end
-- in a newline
pub record IsTrimmed (text left : List ℕ) : Type 0 where
  pub newlines : ℕ
  pub whole : text ≡ left ++ replicate newlines newline
  pub ends : (front : List ℕ) → left ≡ front ++ newline ∷ [] → ⊥
