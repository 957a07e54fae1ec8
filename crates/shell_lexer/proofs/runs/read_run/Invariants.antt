use Rattle.std.proofs.Common.{length, ◌-◌}
use Rattle.shell_lexer.proofs.Cells.{RunSoFar}
use Rattle.shell_lexer.proofs.runs.read_run.Given as goal

abbrev pub invariant-bytes : goal.invariant-bytes
invariant-bytes l = RunSoFar l.which l.bytes l.fn.at l.place l.out

abbrev pub decreases-bytes : goal.decreases-bytes
decreases-bytes l = length l.bytes - l.place
