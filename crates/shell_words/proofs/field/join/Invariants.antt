use Rattle.std.proofs.Common.{◌≡◌, ◌≤◌, ◌++◌, drop, length}
use Rattle.shell_words.specs.Fields.{joined}
use Rattle.shell_words.proofs.field.join.Given as goal

abbrev pub invariant-loop-piece : goal.invariant-loop-piece
invariant-loop-piece l = record {
  few : length l.text ≤ 65536;
  left : l.text ++ joined (drop l.piece-index l.piece-items) ≡ joined l.piece-items;
}
