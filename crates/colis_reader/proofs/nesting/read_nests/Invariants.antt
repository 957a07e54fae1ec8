use Rattle.std.proofs.Common.{◌≡◌, drop}
use Rattle.colis_reader.specs.Nesting.{reading, unread, run}
use Rattle.colis_reader.proofs.nesting.read_nests.Given as goal

abbrev pub invariant-loop-byte : goal.invariant-loop-byte
invariant-loop-byte l = run (reading l.word l.top l.up.items) (drop l.byte-index l.text) ≡ run unread l.text
