use Rattle.std.proofs.Common.{◌≡◌, ◌++◌, map, take}
use Rattle.shell_words.specs.Words.{marked}
use Rattle.shell_words.proofs.letter.add_bytes.Given as goal

abbrev pub invariant-loop-byte : goal.invariant-loop-byte
invariant-loop-byte l = l.out ≡ l.initial.out ++ map (marked l.quoted l.split) (take l.byte-index l.byte-items)
