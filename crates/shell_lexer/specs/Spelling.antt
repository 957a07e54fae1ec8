-- How operators and redirections are spelled (POSIX.1-2017, XCU 2.2.1 Escape Character (Backslash), 2.3 Token
-- Recognition, 2.7 Redirection, 2.10.2 Shell Grammar Rules): by their bytes, where joined lines are left out.
-- src/theorems.rt proves that the tables of specs/Operators.antt see exactly what is spelled so.
use Rattle.std.specs.Prelude.{◌≡◌, ℕ, Bool, true, false, [], ◌∷◌, ◌++◌, codes}
use Rattle.std.specs.List.{list_all}
use Rattle.script_names.specs.Ascii.{bar, paren_open, semicolon}
use Rattle.shell_syntax.specs.declared.redirect.Redirect.{Redirect}
use Rattle.shell_syntax.specs.declared.redirect.Redirect.TheVariants.{OutNull, ErrNull, InNull, OutToErr, ErrToOut}
use Rattle.shell_lexer.specs.declared.sight.Sign.{Sign}
use Rattle.shell_lexer.specs.declared.sight.Sign.TheVariants as sign
use Rattle.shell_lexer.specs.Text.{Bytes, is_blank, skip, ends_word}

-- these bytes come next, joined lines left out (XCU 2.2.1), and the rest is the text directly behind the last of them
abbrev pub Stands : Bytes → Bytes → Bytes → Type 0
Stands [] text rest = text ≡ rest
Stands (b ∷ bytes) text rest = (more : Bytes) × (skip text ≡ b ∷ more) × Stands bytes more rest

-- whether a byte that passes the test is the first
abbrev pub begins : (ℕ → Bool) → Bytes → Bool
begins test [] = false
begins test (b ∷ rest) = test b

-- the next byte that counts, if there is one, is another
abbrev pub IsNotNext : ℕ → Bytes → Type 0
IsNotNext b text = (more : Bytes) → skip text ≡ b ∷ more → ⊥

-- ---- redirections (XCU 2.7)

-- An operator with the number directly before it, if it has one; blanks, perhaps none; and the word `/dev/null`,
-- which ends there (2.7.1 Redirecting Input, 2.7.2 Redirecting Output, 2.7.3 Appending Redirected Output).
pub record IsToNull (operator text rest : Bytes) : Type 0 where
  pub blanks : Bytes
  pub blank : list_all is_blank blanks ≡ true
  pub stands : Stands (operator ++ (blanks ++ codes "/dev/null")) text rest
  pub ends : ends_word (skip rest) ≡ true

-- An operator with the number directly before it, if it has one, and the number directly behind it, which is a whole
-- word (2.7.6 Duplicating an Output File Descriptor).
pub record IsCopy (operator text rest : Bytes) : Type 0 where
  pub stands : Stands operator text rest
  pub ends : ends_word (skip rest) ≡ true

-- The spellings of the five redirections: a line each.
pub data IsRedirected : Redirect → Bytes → Bytes → Type 0 where
  output : {text rest : Bytes} → IsToNull (codes ">") text rest → IsRedirected OutNull text rest
  output_one : {text rest : Bytes} → IsToNull (codes "1>") text rest → IsRedirected OutNull text rest
  append : {text rest : Bytes} → IsToNull (codes ">>") text rest → IsRedirected OutNull text rest
  append_one : {text rest : Bytes} → IsToNull (codes "1>>") text rest → IsRedirected OutNull text rest
  error : {text rest : Bytes} → IsToNull (codes "2>") text rest → IsRedirected ErrNull text rest
  append_error : {text rest : Bytes} → IsToNull (codes "2>>") text rest → IsRedirected ErrNull text rest
  input : {text rest : Bytes} → IsToNull (codes "<") text rest → IsRedirected InNull text rest
  input_zero : {text rest : Bytes} → IsToNull (codes "0<") text rest → IsRedirected InNull text rest
  output_to_error : {text rest : Bytes} → IsCopy (codes ">&2") text rest → IsRedirected OutToErr text rest
  output_one_to_error : {text rest : Bytes} → IsCopy (codes "1>&2") text rest → IsRedirected OutToErr text rest
  error_to_output : {text rest : Bytes} → IsCopy (codes "2>&1") text rest → IsRedirected ErrToOut text rest

-- ---- all operators

-- The operator's bytes come next, and no longer operator does (XCU 2.3, rules 2 and 3; 2.10.2): `;` is none where
-- `;;` stands, `|` where `||`, and `(` where `((` stands, which begins an arithmetic command in some shells (2.9.4.1
-- Grouping Commands).
abbrev pub IsOperator : Sign → Bytes → Bytes → Type 0
IsOperator sign.Newline text rest = Stands (codes "\n") text rest
IsOperator sign.Semi text rest = Stands (codes ";") text rest × IsNotNext semicolon rest
IsOperator sign.DoubleSemi text rest = Stands (codes ";;") text rest
IsOperator sign.AndAnd text rest = Stands (codes "&&") text rest
IsOperator sign.OrOr text rest = Stands (codes "||") text rest
IsOperator sign.Bar text rest = Stands (codes "|") text rest × IsNotNext bar rest
IsOperator sign.LeftParen text rest = Stands (codes "(") text rest × IsNotNext paren_open rest
IsOperator sign.RightParen text rest = Stands (codes ")") text rest
IsOperator (sign.Redirect which) text rest = IsRedirected which text rest
