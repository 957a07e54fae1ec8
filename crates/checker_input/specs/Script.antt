-- What the text of a script comes to: a script, or the first fault for which it is refused. A text is cut into tokens,
-- the tokens are read as a script, and the script is accepted if no unsupported form stands in it.
use Rattle.std.specs.Prelude.{◌≡◌, ℕ, List, [], Result, Ok, Err}
use Rattle.shell_syntax.specs.declared.form.Form.{Form}
use Rattle.shell_syntax.specs.declared.script.Script.{Script}
use Rattle.shell_lexer.specs.declared.fault.LexFault.TheVariants as lexing
use Rattle.shell_lexer.specs.declared.token.Lexed.{Lexed}
use Rattle.shell_lexer.specs.Lexed.{Cut, Faulty}
use Rattle.shell_grammar.specs.declared.fault.ParseFault.{ParseFault}
use Rattle.shell_grammar.specs.declared.fault.ParseFault.TheVariants as parsing
use Rattle.shell_grammar.specs.Spelling.{SpellsWithin, Stopped}
use Rattle.shell_forms.specs.First.{script_forms, IsFirst}
use Rattle.checker_input.specs.declared.script.ScriptFault.{ScriptFault}
use Rattle.checker_input.specs.declared.script.ScriptFault.TheVariants as reason

-- ---- what a text is

-- the text is cut into tokens, which spell the script within 64 levels of nesting
pub record IsScript (text : List ℕ) (script : Script) : Type 0 where
  pub lexed : Lexed
  pub cut : Cut text lexed
  pub spells : SpellsWithin lexed.end lexed.tokens script.body
  pub strict : script.strict ≡ lexed.strict

-- a text is a script in which no unsupported form stands
pub record IsAccepted (text : List ℕ) (script : Script) : Type 0 where
  pub is_script : IsScript text script
  pub none : script_forms script.body ≡ []

-- ---- why a text is refused

-- the text is cut into tokens, whose reading stops with this fault
pub record HasSyntaxFault (text : List ℕ) (fault : ParseFault) : Type 0 where
  pub lexed : Lexed
  pub cut : Cut text lexed
  pub stops : Stopped lexed.end lexed.tokens fault

-- the text is a script, of whose unsupported forms this is the first
pub record HasForm (text : List ℕ) (form : Form) (at : ℕ) : Type 0 where
  pub script : Script
  pub is_script : IsScript text script
  pub first : IsFirst (script_forms script.body) (form, at)

-- the text is no accepted script, for this reason: its tokens', their reading's, or its first unsupported form
abbrev pub IsUnaccepted : List ℕ → ScriptFault → Type 0
IsUnaccepted text (reason.Nul at) = Faulty text (lexing.Nul at)
IsUnaccepted text (reason.Interpreter at) = Faulty text (lexing.Interpreter at)
IsUnaccepted text (reason.OpenQuote at) = Faulty text (lexing.OpenQuote at)
IsUnaccepted text (reason.OpenSubstitution at) = Faulty text (lexing.OpenSubstitution at)
IsUnaccepted text (reason.Unsupported form at) = Faulty text (lexing.Unsupported form at)
IsUnaccepted text (reason.DeepSubstitution at) = Faulty text (lexing.Deep at)
IsUnaccepted text (reason.Syntax at) = HasSyntaxFault text (parsing.Syntax at)
IsUnaccepted text (reason.Deep at) = HasSyntaxFault text (parsing.Deep at)
IsUnaccepted text (reason.Form form at) = HasForm text form at

-- the text is an accepted script, or it is none for this reason
abbrev pub TextComes : List ℕ → Result Script ScriptFault → Type 0
TextComes text (Ok script) = IsAccepted text script
TextComes text (Err why) = IsUnaccepted text why
