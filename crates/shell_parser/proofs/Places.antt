-- The place of the fault with which a reading stops.
use Rattle.std.proofs.Common.{ℕ}
use Rattle.shell_grammar.specs.declared.fault.ParseFault.{ParseFault}
use Rattle.shell_grammar.specs.declared.fault.ParseFault.TheVariants.{Syntax, Deep, Memory}
use Rattle.shell_grammar.specs.Grammar.{Script}
use Rattle.shell_grammar.specs.Look.{Tokens}
use Rattle.shell_grammar.specs.Places.{FirstFault}
use Rattle.shell_grammar.proofs.Faults.{first_of_stopped}
use Rattle.shell_parser.specs.Reads.{Caused, Stops}

pub first_caused : (end : ℕ) (ts : Tokens) (fault : ParseFault) → Caused (Stops 0 end Script ts) fault → Caused (FirstFault 0 end ts) fault
first_caused end ts (Syntax at) s = first_of_stopped end ts (Syntax at) (record { rest = s.rest; reads = s.reads })
first_caused end ts (Deep at) s = first_of_stopped end ts (Deep at) (record { rest = s.rest; reads = s.reads })
first_caused end ts Memory s = tt
