use Rattle.std.proofs.Common.{length, ◌-◌, ◌≡◌, ◌≤◌, drop}
use Rattle.shell_lexer.specs.Text as text
use Rattle.shell_lexer.proofs.runs.run_end.Given as goal

abbrev pub invariant-bytes : goal.invariant-bytes
invariant-bytes l = record { on : l.fn.at ≤ l.place; within : l.place ≤ length l.bytes; behind : text.behind l.which (drop l.fn.at l.bytes) ≡ text.behind l.which (drop l.place l.bytes) }

abbrev pub decreases-bytes : goal.decreases-bytes
decreases-bytes l = length l.bytes - l.place
