use Rattle.std.proofs.Common.{length}
use Rattle.shell_lexer.proofs.late.+is_plainly.Given as goal

abbrev pub decreases-is_plainly : goal.decreases-is_plainly
decreases-is_plainly l = length l.bytes.now
