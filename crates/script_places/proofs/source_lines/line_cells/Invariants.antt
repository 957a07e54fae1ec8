use Rattle.std.proofs.Common.{◌≡◌, ◌<◌, ◌++◌, length}
use Rattle.script_places.specs.SourceLines.{cells, line_cells}
use Rattle.script_places.proofs.source_lines.line_cells.Given as goal

abbrev pub invariant-loop-left : goal.invariant-loop-left
invariant-loop-left l = (l.cells ++ cells l.column l.passed l.rest_looks l.left ≡ line_cells l.line) × (l.column < 4)

abbrev pub decreases-loop-left : goal.decreases-loop-left
decreases-loop-left l = length l.left
