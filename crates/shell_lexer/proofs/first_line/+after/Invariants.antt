use Rattle.std.proofs.Common.{length}
use Rattle.shell_lexer.proofs.first_line.+after.Given as goal

abbrev pub decreases-after : goal.decreases-after
decreases-after l = length l.wanted.now
