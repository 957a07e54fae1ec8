-- How the parts of a word are spelled that hold no others (POSIX.1-2017, XCU 2.2 Quoting, 2.5 Parameters and
-- Variables, 2.6.2 Parameter Expansion, 2.6.3 Command Substitution): by their bytes, where joined lines are left out
-- but in single quotes. src/theorems.rt proves that the tables of specs/Parts.antt see exactly what is spelled so.
use Rattle.std.specs.Prelude.{◌≡◌, ℕ, ◌+◌, ◌≤◌, Bool, true, false, not, nat_eq, [], ◌∷◌, ◌++◌, Option, Some}
use Rattle.std.specs.Prelude.{None, codes}
use Rattle.std.specs.List.{list_all}
use Rattle.shell_syntax.specs.declared.key.Key.{Key}
use Rattle.shell_syntax.specs.declared.key.Key.TheVariants.{Named, Arg, Count}
use Rattle.shell_lexer.specs.declared.token.RawPart.{RawPart}
use Rattle.shell_lexer.specs.declared.token.RawPart.TheVariants as part
use Rattle.script_names.specs.Ascii.{digit_zero, paren_open, single_quote}
use Rattle.script_names.specs.ShellNames.{is_name_byte, is_shell_name}
use Rattle.shell_lexer.specs.Text.{Bytes, skip, is_default_byte}
use Rattle.shell_lexer.specs.Spelling.{Stands, begins, IsNotNext}

-- ---- parameters (XCU 2.6.2)

-- what a default may be: bytes that stand for themselves in braces
abbrev pub is_default : Bytes → Bool
is_default bytes = list_all is_default_byte bytes

-- the digit of a number from 1 to 9, which names a positional parameter (2.5.1)
pub record IsDigitOf (number digit : ℕ) : Type 0 where
  pub least : 1 ≤ number
  pub most : number ≤ 9
  pub digit_is : digit ≡ digit_zero + number

-- The spellings of a parameter with its key and its default: a line each. A name outside braces is the longest one
-- there; a number has one digit.
pub data IsParam : Key → Option Bytes → Bytes → Bytes → Type 0 where
  name : {name text rest : Bytes} → is_shell_name name ≡ true
      → Stands (codes "$" ++ name) text rest → begins is_name_byte (skip rest) ≡ false
      → IsParam (Named name) None text rest
  name_braced : {name text rest : Bytes} → is_shell_name name ≡ true
      → Stands (codes "${" ++ (name ++ codes "}")) text rest
      → IsParam (Named name) None text rest
  name_default : {name default text rest : Bytes} → is_shell_name name ≡ true → is_default default ≡ true
      → Stands (codes "${" ++ (name ++ (codes ":-" ++ (default ++ codes "}")))) text rest
      → IsParam (Named name) (Some default) text rest
  number : {number digit : ℕ} {text rest : Bytes} → IsDigitOf number digit
      → Stands (codes "$" ++ (digit ∷ [])) text rest
      → IsParam (Arg number) None text rest
  number_braced : {number digit : ℕ} {text rest : Bytes} → IsDigitOf number digit
      → Stands (codes "${" ++ (digit ∷ codes "}")) text rest
      → IsParam (Arg number) None text rest
  number_default : {number digit : ℕ} {default text rest : Bytes} → IsDigitOf number digit → is_default default ≡ true
      → Stands (codes "${" ++ (digit ∷ (codes ":-" ++ (default ++ codes "}")))) text rest
      → IsParam (Arg number) (Some default) text rest
  count : {text rest : Bytes} → Stands (codes "$#") text rest → IsParam Count None text rest
  count_braced : {text rest : Bytes} → Stands (codes "${#}") text rest → IsParam Count None text rest

-- ---- quotes

-- Bytes in single quotes, which keep all of them as they stand, joined lines too (2.2.2 Single-Quotes); or one byte
-- behind a backslash (2.2.1 Escape Character (Backslash)), which is no newline, since a backslash before a newline
-- would be a joined line.
pub data IsQuoted : Bytes → Bytes → Bytes → Type 0 where
  single : {bytes text rest : Bytes} → list_all (λ b. not (nat_eq b single_quote)) bytes ≡ true
      → Stands (codes "'") text (bytes ++ single_quote ∷ rest) → IsQuoted bytes text rest
  escaped : {byte : ℕ} {text rest : Bytes} → Stands (codes "\\") text (byte ∷ rest) → IsQuoted (byte ∷ []) text rest

-- ---- all parts that hold no others

-- A part, outside double quotes or in them: a parameter, which says where it stands, or outside them what is quoted.
abbrev pub IsPiece : Bool → RawPart → Bytes → Bytes → Type 0
IsPiece inside (part.Param key default quoted) text rest = (quoted ≡ inside) × IsParam key default text rest
IsPiece inside (part.Quoted bytes) text rest = (inside ≡ false) × IsQuoted bytes text rest
IsPiece inside _ text rest = ⊥

-- `$(`, unless a second parenthesis follows, which begins an arithmetic expansion (2.6.3, 2.6.4)
pub record IsSubstitution (text rest : Bytes) : Type 0 where
  pub stands : Stands (codes "$(") text rest
  pub single : IsNotNext paren_open rest
