use Rattle.std.proofs.Common.{◌≡◌, ◌≤◌, ◌++◌, drop, length}
use Rattle.shell_words.specs.Words.{bytes_of}
use Rattle.shell_words.proofs.field.bytes.Given as goal

abbrev pub invariant-loop-letter : goal.invariant-loop-letter
invariant-loop-letter l = record {
  few : length l.text ≤ 65536;
  left : l.text ++ bytes_of (drop l.letter-index l.part) ≡ bytes_of l.part;
}
