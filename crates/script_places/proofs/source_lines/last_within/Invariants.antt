use Rattle.std.proofs.Common.{◌≡◌, length}
use Rattle.script_places.specs.SourceLines.{last_within}
use Rattle.script_places.proofs.source_lines.last_within.Given as goal

abbrev pub invariant-loop-left : goal.invariant-loop-left
invariant-loop-left l = last_within l.room l.left ≡ last_within l.room l.cells

abbrev pub decreases-loop-left : goal.decreases-loop-left
decreases-loop-left l = length l.left
