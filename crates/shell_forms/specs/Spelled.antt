-- What it is for a text to spell a script.
use Rattle.std.specs.Prelude.{◌≡◌, ℕ, List}
use Rattle.shell_syntax.specs.declared.script.Script.{Script}
use Rattle.shell_lexer.specs.declared.token.Lexed.{Lexed}
use Rattle.shell_lexer.specs.Lexed.{CutAtAnyDepth}
use Rattle.shell_grammar.specs.Spelling.{Spells}

-- some text spells the script: it is cut into tokens that the grammar reads as the script, however deep they are
-- nested
pub record IsSpelled (script : Script) : Type 0 where
  pub text : List ℕ
  pub lexed : Lexed
  pub cut : CutAtAnyDepth text lexed
  pub spells : Spells lexed.end lexed.tokens script.body
  pub strict : script.strict ≡ lexed.strict
