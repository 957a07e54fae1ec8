-- A text that is written in pieces.
use Rattle.std.specs.Prelude.{ℕ, List, Option, Result, Ok, Err}
use Rattle.checker_io.specs.declared.sink.SinkFault.{SinkFault}
use Rattle.checker_io.specs.Sink.{Took, TookPrefix}

-- all of a text was taken, or after a fault a prefix of it
abbrev pub TakesAll : Option (List ℕ) → Option (List ℕ) → List ℕ → Result Unit SinkFault → Type 0
TakesAll old new text (Ok _) = Took old new text
TakesAll old new text (Err fault) = TookPrefix old new text
