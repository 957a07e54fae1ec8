use Rattle.std.proofs.Common.{◌≡◌, ◌+◌, length}
use Rattle.script_places.specs.SourceLines.{first_count}
use Rattle.script_places.proofs.source_lines.first_count.Given as goal

abbrev pub invariant-loop-left : goal.invariant-loop-left
invariant-loop-left l = (l.count + first_count l.columns l.left ≡ first_count l.room l.cells) × (l.count + length l.left ≡ length l.cells)

abbrev pub decreases-loop-left : goal.decreases-loop-left
decreases-loop-left l = length l.left
