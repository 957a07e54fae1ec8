use Rattle.std.proofs.Common.{◌≡◌, take}
use Rattle.std.specs.List.{flat_map}
use Rattle.explanation.specs.LinesLeft.{entry_left}
use Rattle.explanation.proofs.lines_left.calls_left.Given as goal

abbrev pub invariant-loop-entry : goal.invariant-loop-entry
invariant-loop-entry l = l.calls ≡ flat_map (entry_left l.sources l.side l.script) (take l.entry-index l.entries)
