use Rattle.std.proofs.Common.{◌≡◌, take}
use Rattle.shell_words.proofs.pattern.copied.Given as goal

abbrev pub invariant-loop-letter : goal.invariant-loop-letter
invariant-loop-letter l = l.twins ≡ take l.letter-index l.letters
