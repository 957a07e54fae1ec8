use Rattle.std.proofs.Common.{◌≡◌, ◌++◌, drop}
use Rattle.shell_words.specs.Words.{word}
use Rattle.shell_words.proofs.letter.letters.Given as goal

abbrev pub invariant-loop-piece : goal.invariant-loop-piece
invariant-loop-piece l = l.out ++ word (drop l.piece-index l.pieces) ≡ word l.pieces
