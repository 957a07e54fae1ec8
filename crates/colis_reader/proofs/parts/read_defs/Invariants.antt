use Rattle.std.proofs.Common.{◌≡◌, map, take}
use Rattle.colis_reader.specs.Readings.{reads}
use Rattle.colis_reader.proofs.parts.read_defs.Given as goal

abbrev pub invariant-loop-nest : goal.invariant-loop-nest
invariant-loop-nest l = l.defs ≡ map (λ r. r.def) (reads (take l.nest-index l.nests))
