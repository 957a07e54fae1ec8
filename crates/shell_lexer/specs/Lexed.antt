-- What it is for a text to be cut into tokens, and what its first fault is.
use Rattle.std.specs.Prelude.{◌≡◌, ℕ, Bool, List, [], length, Some, None}
use Rattle.shell_lexer.specs.declared.fault.LexFault.{LexFault}
use Rattle.shell_lexer.specs.declared.fault.LexFault.TheVariants.{Nul, Interpreter, OpenQuote, OpenSubstitution}
use Rattle.shell_lexer.specs.declared.fault.LexFault.TheVariants.{Unsupported, Deep, Memory}
use Rattle.shell_lexer.specs.declared.token.Token.{Token}
use Rattle.shell_lexer.specs.declared.token.Lexed.{Lexed}
use Rattle.shell_lexer.specs.Depth.{too_deep, no_limit}
use Rattle.shell_lexer.specs.Text.{Bytes}
use Rattle.shell_lexer.specs.FirstLine.{first_line, behind_line, interpreter, nul_of}
use Rattle.shell_lexer.specs.Reading.{Out, Whole, Stop, IsItems}

-- the text behind the first line is read from its first byte on, outside every substitution, with a limit of
-- substitutions
abbrev pub IsBody : (ℕ → Bool) → Bytes → Out (List Token) → Type 0
IsBody deep text q = IsItems deep (length text) 0 0 0 (behind_line text) q

-- the text has no NUL, its first line is of the form and asks for `-e` or not, and behind it the text is blanks,
-- comments, joined lines and the spellings of these tokens, each the longest that fits, without a form that is not
-- supported and without a substitution that the limit calls too deep
pub record CutBy (deep : ℕ → Bool) (text : Bytes) (lexed : Lexed) : Type 0 where
  pub no_nul : nul_of text ≡ None
  pub first : interpreter (first_line text) ≡ Some lexed.strict
  pub body : IsBody deep text (Whole lexed.tokens [])
  pub end : lexed.end ≡ length text

-- the text is cut into these tokens, and no substitution stands inside 64 others
abbrev pub Cut : Bytes → Lexed → Type 0
Cut text = CutBy too_deep text

-- the text is cut into these tokens, however deep its substitutions stand inside one another
abbrev pub CutAtAnyDepth : Bytes → Lexed → Type 0
CutAtAnyDepth text = CutBy no_limit text

-- the text has no NUL, and its first line is of the form
pub record Begins (text : Bytes) : Type 0 where
  pub no_nul : nul_of text ≡ None
  pub strict : Bool
  pub first : interpreter (first_line text) ≡ Some strict

-- the text's first fault: a NUL; else a first line that is not of the form; else the first fault behind that line
abbrev pub Faulty : Bytes → LexFault → Type 0
Faulty text (Nul at) = nul_of text ≡ Some at
Faulty text (Interpreter at) = (nul_of text ≡ None) × (interpreter (first_line text) ≡ None) × (at ≡ 0)
Faulty text (OpenQuote at) = Begins text × IsBody too_deep text (Stop (OpenQuote at))
Faulty text (OpenSubstitution at) = Begins text × IsBody too_deep text (Stop (OpenSubstitution at))
Faulty text (Unsupported form at) = Begins text × IsBody too_deep text (Stop (Unsupported form at))
Faulty text (Deep at) = Begins text × IsBody too_deep text (Stop (Deep at))
Faulty text Memory = ⊥

-- the statement holds of the fault, unless the fault is want of memory
abbrev pub Caused : (LexFault → Type 0) → LexFault → Type 0
Caused P (Nul at) = P (Nul at)
Caused P (Interpreter at) = P (Interpreter at)
Caused P (OpenQuote at) = P (OpenQuote at)
Caused P (OpenSubstitution at) = P (OpenSubstitution at)
Caused P (Unsupported form at) = P (Unsupported form at)
Caused P (Deep at) = P (Deep at)
Caused P Memory = Unit {0}
