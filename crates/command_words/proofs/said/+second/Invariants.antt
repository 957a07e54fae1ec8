use Rattle.std.proofs.Common.{length}
use Rattle.command_words.proofs.said.+second.Given as goal

abbrev pub decreases-second : goal.decreases-second
decreases-second l = length l.said.now
