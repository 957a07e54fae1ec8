use Rattle.std.proofs.Common.{◌≡◌, take, drop}
use Rattle.debian_versions.specs.Versions.{cut_first, behind_front}
use Rattle.debian_versions.proofs.version.cut_first.Given as goal

abbrev pub invariant-loop-byte : goal.invariant-loop-byte
invariant-loop-byte l = record {
  counted : l.place ≡ l.byte-index;
  read : cut_first l.at l.text ≡ behind_front (take l.byte-index l.text) (cut_first l.at (drop l.byte-index l.text));
}
