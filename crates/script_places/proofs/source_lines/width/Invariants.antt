use Rattle.std.proofs.Common.{◌≡◌, ◌+◌, length}
use Rattle.script_places.specs.SourceLines.{width}
use Rattle.script_places.proofs.source_lines.width.Given as goal

abbrev pub invariant-loop-left : goal.invariant-loop-left
invariant-loop-left l = l.columns + width l.left ≡ width l.cells

abbrev pub decreases-loop-left : goal.decreases-loop-left
decreases-loop-left l = length l.left
