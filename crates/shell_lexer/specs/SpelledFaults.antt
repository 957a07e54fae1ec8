-- Where a fault of the cut stands (POSIX.1-2017, XCU 2.2 Quoting, 2.5.2 Special Parameters, 2.6 Word Expansions, 2.7
-- Redirection; which forms are not supported is this project's own choice): by the bytes that stand there, where joined
-- lines are left out but in single quotes. src/theorems.rt proves that the tables see a fault exactly where it is
-- spelled so.
use Rattle.std.specs.Prelude.{◌≡◌, ◌⊎◌, ℕ, Bool, true, false, not, nat_eq, List, [], ◌∷◌, ◌++◌, length, drop, Option}
use Rattle.std.specs.Prelude.{codes}
use Rattle.std.specs.List.{list_all, list_any}
use Rattle.shell_syntax.specs.declared.form.Form.{Form}
use Rattle.shell_syntax.specs.declared.form.Form.TheVariants as form
use Rattle.shell_syntax.specs.declared.key.Key.{Key}
use Rattle.shell_syntax.specs.declared.redirect.Redirect.{Redirect}
use Rattle.shell_lexer.specs.declared.fault.LexFault.{LexFault}
use Rattle.shell_lexer.specs.declared.fault.LexFault.TheVariants.{Nul, Interpreter, OpenQuote, OpenSubstitution}
use Rattle.shell_lexer.specs.declared.fault.LexFault.TheVariants.{Unsupported, Deep, Memory}
use Rattle.script_names.specs.Ascii.{ampersand, less, nul, single_quote}
use Rattle.script_names.specs.ShellNames.{is_digit, is_shell_name}
use Rattle.shell_lexer.specs.Text.{Bytes, skip, offset}
use Rattle.shell_lexer.specs.Spelling.{Stands, IsNotNext, IsRedirected}
use Rattle.shell_lexer.specs.SpelledEnds.{AtTextEnd}
use Rattle.shell_lexer.specs.SpelledParts.{is_default, IsDigitOf, IsParam}

-- ---- where a token may begin

-- digits, perhaps none, and directly behind them an operator, which the text `from` begins with (XCU 2.7)
pub record IsNumbered (operator text from rest : Bytes) : Type 0 where
  pub digits : Bytes
  pub pass : list_all is_digit digits ≡ true
  pub number : Stands digits text from
  pub stands : Stands operator from rest

-- none of the five redirections is spelled here
abbrev pub IsNoRedirection : Bytes → Type 0
IsNoRedirection text = (which : Redirect) (rest : Bytes) → IsRedirected which text rest → ⊥

-- The forms that are not supported where a token may begin, in a text of which the whole has `len` bytes: a line each.
-- A fault of a redirection or a here-document stands at the operator, not at the number before it.
pub data IsWrong (len : ℕ) (text : Bytes) : LexFault → Type 0 where
  background : {rest : Bytes} → Stands (codes "&") text rest → IsNotNext ampersand rest
      → IsWrong len text (Unsupported form.Background (offset len text))
  arithmetic_command : {rest : Bytes} → Stands (codes "((") text rest
      → IsWrong len text (Unsupported form.Arith (offset len text))
  here_document : {from rest : Bytes} → IsNumbered (codes "<<") text from rest
      → IsWrong len text (Unsupported form.Heredoc (offset len from))
  input : {from rest : Bytes} → IsNumbered (codes "<") text from rest → IsNotNext less rest → IsNoRedirection text
      → IsWrong len text (Unsupported form.Redirect (offset len from))
  output : {from rest : Bytes} → IsNumbered (codes ">") text from rest → IsNoRedirection text
      → IsWrong len text (Unsupported form.Redirect (offset len from))

-- ---- parameters

-- what names a parameter that may have a default: a name, or a digit from 1 to 9
pub data IsKey : Bytes → Type 0 where
  name : {name : Bytes} → is_shell_name name ≡ true → IsKey name
  number : {number digit : ℕ} → IsDigitOf number digit → IsKey (digit ∷ [])

-- What a parameter in braces begins with, behind `${` and before its `}`: a line each.
pub data IsBegun : Bytes → Type 0 where
  nothing : IsBegun []
  key : {key : Bytes} → IsKey key → IsBegun key
  colon : {key : Bytes} → IsKey key → IsBegun (key ++ codes ":")
  default : {key : Bytes} (default : Bytes) → IsKey key → is_default default ≡ true
      → IsBegun (key ++ (codes ":-" ++ default))
  count : IsBegun (codes "#")

-- `${` and the beginning of a parameter stand here, and then the text ends
pub record EndsInParam (text : Bytes) : Type 0 where
  pub begun : Bytes
  pub is_begun : IsBegun begun
  pub rest : Bytes
  pub stands : Stands (codes "${" ++ begun) text rest
  pub ends : AtTextEnd rest

-- no parameter is spelled here
abbrev pub IsNoParam : Bytes → Type 0
IsNoParam text = (key : Key) (default : Option Bytes) (rest : Bytes) → IsParam key default text rest → ⊥

-- The parameter forms that are not supported: a special parameter but `$@` and `$#` (2.5.2); outside double quotes a
-- `$` before a quote; and any other form in braces, but one in which the text ends.
pub data IsOtherParam (inside : Bool) (text : Bytes) : Type 0 where
  special : {byte : ℕ} {rest : Bytes} → list_any (nat_eq byte) (codes "*?-$!0") ≡ true
      → Stands (codes "$" ++ (byte ∷ [])) text rest → IsOtherParam inside text
  before_quote : {byte : ℕ} {rest : Bytes} → inside ≡ false → list_any (nat_eq byte) (codes "'\"") ≡ true
      → Stands (codes "$" ++ (byte ∷ [])) text rest → IsOtherParam inside text
  braced : {rest : Bytes} → Stands (codes "${") text rest → IsNoParam text → (EndsInParam text → ⊥)
      → IsOtherParam inside text

-- ---- in a word

-- The faults in a word, outside double quotes or in them, at a place whose next byte that counts has the offset `at`:
-- a line each.
pub data IsBad (inside : Bool) (at : ℕ) (text : Bytes) : LexFault → Type 0 where
  open_quote : {rest : Bytes} → inside ≡ false → Stands (codes "'") text rest
      → list_all (λ b. not (nat_eq b single_quote)) rest ≡ true → IsBad inside at text (OpenQuote at)
  open_parameter : EndsInParam text → IsBad inside at text (OpenSubstitution at)
  backquote : {rest : Bytes} → Stands (codes "`") text rest → IsBad inside at text (Unsupported form.Backquote at)
  arithmetic : {rest : Bytes} → Stands (codes "$((") text rest → IsBad inside at text (Unsupported form.Arith at)
  parameter : IsOtherParam inside text → IsBad inside at text (Unsupported form.Param at)

-- ---- before the text is read

-- the first NUL of the text has this offset
pub record IsFirstNul (at : ℕ) (text : Bytes) : Type 0 where
  pub before : Bytes
  pub rest : Bytes
  pub is : text ≡ before ++ nul ∷ rest
  pub first : list_all (λ b. not (nat_eq b nul)) before ≡ true
  pub place : length before ≡ at

-- ---- at a fault's offset

-- these bytes stand in a text from an offset on, which is that of the first of them
pub record StandsAt (bytes : Bytes) (at : ℕ) (text : Bytes) : Type 0 where
  pub rest : Bytes
  pub stands : Stands bytes (drop at text) rest
  pub first : skip (drop at text) ≡ drop at text

-- one of these stands there
abbrev pub OneStands : List Bytes → ℕ → Bytes → Type 0
OneStands [] at text = ⊥
OneStands (bytes ∷ others) at text = StandsAt bytes at text ⊎ OneStands others at text

-- what a form that a cut refuses begins with
abbrev pub beginnings : Form → List Bytes
beginnings form.Heredoc = codes "<<" ∷ []
beginnings form.Arith = codes "((" ∷ codes "$((" ∷ []
beginnings form.Background = codes "&" ∷ []
beginnings form.Backquote = codes "`" ∷ []
beginnings form.Param = codes "$" ∷ []
beginnings form.AllArgs = codes "$@" ∷ []
beginnings form.Redirect = codes "<" ∷ codes ">" ∷ []
beginnings form.Tilde = codes "~" ∷ []
beginnings form.Brace = codes "{" ∷ []
beginnings form.SubstCase = codes "case" ∷ []
beginnings _ = []

-- what stands at a fault's offset: the NUL; the quote that is open; the `${` or `$(` that is; what the form begins
-- with; the `$(` that is too deep. A first line has the offset 0.
abbrev pub FaultStands : Bytes → LexFault → Type 0
FaultStands text (Nul at) = OneStands ((nul ∷ []) ∷ []) at text
FaultStands text (Interpreter at) = at ≡ 0
FaultStands text (OpenQuote at) = OneStands (codes "'" ∷ codes "\"" ∷ []) at text
FaultStands text (OpenSubstitution at) = OneStands (codes "${" ∷ codes "$(" ∷ []) at text
FaultStands text (Unsupported which at) = OneStands (beginnings which) at text
FaultStands text (Deep at) = OneStands (codes "$(" ∷ []) at text
FaultStands text Memory = ⊥
