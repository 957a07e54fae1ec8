use Rattle.std.proofs.Common.{◌≡◌, take}
use Rattle.load_summary.specs.Counts.{count}
use Rattle.load_summary.proofs.counts.count.Given as goal

abbrev pub invariant-loop-ending : goal.invariant-loop-ending
invariant-loop-ending l = l.found ≡ count l.way (take l.ending-index l.endings)
