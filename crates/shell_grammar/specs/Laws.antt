-- Laws of the grammar and of the places of faults.
use Rattle.std.specs.Prelude.{◌≡◌, ◌↔◌, ℕ, [], ◌∷◌, ◌++◌}
use Rattle.shell_syntax.specs.declared.syntax.Command.{Command}
use Rattle.shell_lexer.specs.declared.token.Token.{Token}
use Rattle.shell_grammar.specs.declared.fault.ParseFault.{ParseFault}
use Rattle.shell_grammar.specs.WithoutRuns.{without_runs}
use Rattle.shell_grammar.specs.Begins.{Begins}
use Rattle.shell_grammar.specs.Look.{Tokens}
use Rattle.shell_grammar.specs.Places.{Pass, FirstFault, NoFault}
use Rattle.shell_grammar.specs.PlainGrammar.{IsScript}
use Rattle.shell_grammar.specs.Spelling.{Spells, SpellsWithin, Stopped}

-- by the table tokens spell the scripts of the plain grammar, and no others: one of the two is to be believed
abbrev pub OneGrammar : Type 0
OneGrammar = (end : ℕ) (ts : Tokens) (body : Command) → Spells end ts body ↔ IsScript end ts body

-- the fault with which a reading within 64 levels stops is the first fault of the tokens
abbrev pub StopsAtTheFirst : Type 0
StopsAtTheFirst = (end : ℕ) (ts : Tokens) (fault : ParseFault) → Stopped end ts fault → FirstFault 0 end ts fault

-- tokens have at most one first fault
abbrev pub OneFirstFault : Type 0
OneFirstFault = (end : ℕ) (ts : Tokens) (f g : ParseFault) → FirstFault 0 end ts f → FirstFault 0 end ts g → f ≡ g

-- where they spell a script within 64 levels, each of them passes, and they have no fault
abbrev pub ScriptsPass : Type 0
ScriptsPass = (end : ℕ) (ts : Tokens) (body : Command) → SpellsWithin end ts body → Pass 0 end ts × NoFault end ts

-- what a script's tokens begin with, whatever their substitutions hold, begins a script
abbrev pub ScriptsBegin : Type 0
ScriptsBegin = (end : ℕ) (ts front later : Tokens) (body : Command) → Spells end ts body
    → without_runs ts ≡ without_runs front ++ later → (level : ℕ) × Begins 0 end front level

-- the first tokens of those that begin some script begin one
abbrev pub FewerBegin : Type 0
FewerBegin = (end : ℕ) (front later : Tokens) (level : ℕ) → Begins 0 end (front ++ later) level
    → (fewer : ℕ) × Begins 0 end front fewer

-- tokens, of which there is one, begin a script with one number of levels open
abbrev pub OneLevel : Type 0
OneLevel = (end : ℕ) (front : Tokens) (t : Token) (l l2 : ℕ) → Begins 0 end (front ++ t ∷ []) l
    → Begins 0 end (front ++ t ∷ []) l2 → l ≡ l2
