use Rattle.std.proofs.Common.{◌≡◌, ◌++◌, take, drop}
use Rattle.debian_versions.specs.Parts.{leading}
use Rattle.debian_versions.proofs.part.leading.Given as goal

abbrev pub invariant-loop-byte : goal.invariant-loop-byte
invariant-loop-byte l = record {
  counted : l.count ≡ l.byte-index;
  read : leading l.text ≡ take l.byte-index l.text ++ leading (drop l.byte-index l.text);
}
