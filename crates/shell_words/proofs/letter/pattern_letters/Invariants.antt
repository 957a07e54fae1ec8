use Rattle.std.proofs.Common.{◌≡◌, ◌++◌, drop}
use Rattle.shell_words.specs.Patterns.{pattern_letters}
use Rattle.shell_words.proofs.letter.pattern_letters.Given as goal

abbrev pub invariant-loop-piece : goal.invariant-loop-piece
invariant-loop-piece l = l.out ++ pattern_letters (drop l.piece-index l.pieces) ≡ pattern_letters l.pieces
