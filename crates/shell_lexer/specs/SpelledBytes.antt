-- Which bytes stand for themselves in a word (POSIX.1-2017, XCU 2.2 Quoting, 2.6 Word Expansions): by the bytes that
-- stand there, where joined lines are left out. src/theorems.rt proves that the tables see a byte that stands for
-- itself exactly where one is spelled so.
use Rattle.std.specs.Prelude.{◌≡◌, ℕ, Bool, true, false, not, ◌&&◌, ◌||◌, nat_eq, [], ◌∷◌, codes}
use Rattle.std.specs.List.{list_any}
use Rattle.script_names.specs.Ascii.{backslash as backslash_byte, dollar as dollar_byte}
use Rattle.script_names.specs.ShellNames.{is_name_byte}
use Rattle.shell_lexer.specs.Text.{Bytes, skip, is_blank}
use Rattle.shell_lexer.specs.Spelling.{Stands, begins}
use Rattle.shell_lexer.specs.SpelledEnds.{begins_operator}

-- what a backslash escapes in double quotes, where all other bytes but these stand for themselves (2.2.3 Double-Quotes)
abbrev pub is_escaped : ℕ → Bool
is_escaped b = list_any (nat_eq b) (codes "\"\\`$")

-- whether a byte may mean something else than itself, outside double quotes or in them
abbrev pub has_meaning : Bool → ℕ → Bool
has_meaning true b = is_escaped b
has_meaning false b = is_blank b || begins_operator b || list_any (nat_eq b) (codes "'\"\\`$")

-- whether `$` before this byte begins something: a name, a parameter of one byte, `${`, `$(`; and outside double quotes
-- a quote (2.6)
abbrev pub begins_expansion : Bool → ℕ → Bool
begins_expansion inside b =
    is_name_byte b || list_any (nat_eq b) (codes "{(@#*?-$!") || (not inside && list_any (nat_eq b) (codes "'\""))

-- A byte that stands for itself, outside double quotes or in them: a line each. A `$` does so before any other byte; a
-- backslash at the text's end, and in double quotes before any byte that it does not escape.
pub data IsByte (inside : Bool) (text : Bytes) : ℕ → Bytes → Type 0 where
  ordinary : {byte : ℕ} {rest : Bytes} → Stands (byte ∷ []) text rest → has_meaning inside byte ≡ false
      → IsByte inside text byte rest
  dollar : {rest : Bytes} → Stands (codes "$") text rest → begins (begins_expansion inside) (skip rest) ≡ false
      → IsByte inside text dollar_byte rest
  last : Stands (codes "\\") text [] → IsByte inside text backslash_byte []
  backslash : {rest : Bytes} → inside ≡ true → Stands (codes "\\") text rest → begins is_escaped rest ≡ false
      → IsByte inside text backslash_byte rest
  escaped : {byte : ℕ} {rest : Bytes} → inside ≡ true → Stands (codes "\\") text (byte ∷ rest)
      → is_escaped byte ≡ true → IsByte inside text byte rest
