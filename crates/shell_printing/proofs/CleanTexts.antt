-- Texts without the byte 0.
use Rattle.std.proofs.Common.{◌≡◌, ℕ, Bool, true, not, nat_eq}
use Rattle.std.specs.List.{list_all}
use Rattle.shell_lexer.specs.Text.{Bytes}

-- whether a byte is another
abbrev pub is_clean : ℕ → Bool
is_clean b = not (nat_eq b 0)

-- no byte of the text is 0
abbrev pub IsClean : Bytes → Type 0
IsClean text = list_all is_clean text ≡ true
