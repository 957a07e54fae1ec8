use Rattle.std.proofs.Common.{◌≡◌, ◌+◌, drop}
use Rattle.command_words.specs.Words.{after, start}
use Rattle.command_words.proofs.read.read_all.Given as goal

abbrev pub invariant-loop-i : goal.invariant-loop-i
invariant-loop-i l = after l.command l.begun (drop l.i l.words) (l.i + 2) ≡ after l.command start l.words 2
