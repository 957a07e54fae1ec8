use Rattle.std.proofs.Common.{length, ◌-◌}
use Rattle.shell_lexer.proofs.Quotes.{QuoteSoFar}
use Rattle.shell_lexer.proofs.parts.quote_end.Given as goal

abbrev pub invariant-loop-place : goal.invariant-loop-place
invariant-loop-place l = QuoteSoFar l.text l.fn.at l.place

abbrev pub decreases-loop-place : goal.decreases-loop-place
decreases-loop-place l = length l.text - l.place
