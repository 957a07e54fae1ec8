use Rattle.std.proofs.Common.{length, ◌-◌, ◌≡◌, ◌≤◌, drop}
use Rattle.shell_lexer.specs.Text as text
use Rattle.shell_lexer.proofs.bytes.skip.Given as goal

abbrev pub invariant-loop-place : goal.invariant-loop-place
invariant-loop-place l = (l.fn.at ≤ l.place) × (l.place ≤ length l.bytes) × (text.skip (drop l.place l.bytes) ≡ text.skip (drop l.fn.at l.bytes))

abbrev pub decreases-loop-place : goal.decreases-loop-place
decreases-loop-place l = length l.bytes - l.place
