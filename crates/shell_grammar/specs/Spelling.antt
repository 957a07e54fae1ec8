-- Which script tokens spell, and with which fault their reading stops.
use Rattle.std.specs.Prelude.{ℕ, Bool, false, leb}
use Rattle.shell_syntax.specs.declared.syntax.Command.{Command}
use Rattle.shell_grammar.specs.declared.fault.ParseFault.{ParseFault}
use Rattle.shell_grammar.specs.Look.{Tokens}
use Rattle.shell_grammar.specs.Grammar.{Script}
use Rattle.shell_grammar.specs.Reading.{Whole, Stop, IsRule}

-- no limit on levels
abbrev pub no_limit : ℕ → Bool
no_limit d = false

-- 64 levels are the most
abbrev pub deep_64 : ℕ → Bool
deep_64 d = leb 64 d

-- the tokens, which end at an offset, spell a script's body
pub record Spells (end : ℕ) (ts : Tokens) (body : Command) : Type 0 where
  pub rest : Tokens
  pub reads : IsRule no_limit 0 end Script ts (Whole body rest)

-- read from left to right within 64 levels, the tokens spell a script's body
pub record SpellsWithin (end : ℕ) (ts : Tokens) (body : Command) : Type 0 where
  pub rest : Tokens
  pub reads : IsRule deep_64 0 end Script ts (Whole body rest)

-- read from left to right within 64 levels, the tokens stop with this fault
pub record Stopped (end : ℕ) (ts : Tokens) (fault : ParseFault) : Type 0 where
  pub rest : Tokens
  pub reads : IsRule deep_64 0 end Script ts (Stop fault rest)
