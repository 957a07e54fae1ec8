use Rattle.std.proofs.Common.{◌≡◌, ◌++◌, take}
use Rattle.std.specs.List.{flat_map}
use Rattle.script_places.specs.SourceLines.{cell_text}
use Rattle.script_places.proofs.source_lines.push_cells.Given as goal

abbrev pub invariant-loop-cell : goal.invariant-loop-cell
invariant-loop-cell l = l.text ≡ l.initial.text ++ flat_map cell_text (take l.cell-index l.cells)
