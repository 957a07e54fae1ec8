use Rattle.std.proofs.Common.{length, ◌-◌, ◌≡◌, ◌≤◌, drop}
use Rattle.shell_lexer.specs.Operators as table
use Rattle.shell_lexer.proofs.operators.after_line.Given as goal

abbrev pub invariant-loop-place : goal.invariant-loop-place
invariant-loop-place l = (l.fn.at ≤ l.place) × (l.place ≤ length l.text) × (table.after_line (drop l.place l.text) ≡ table.after_line (drop l.fn.at l.text))

abbrev pub decreases-loop-place : goal.decreases-loop-place
decreases-loop-place l = length l.text - l.place
