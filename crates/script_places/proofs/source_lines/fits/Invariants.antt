use Rattle.std.proofs.Common.{◌≡◌, length}
use Rattle.script_places.specs.SourceLines.{fits}
use Rattle.script_places.proofs.source_lines.fits.Given as goal

abbrev pub invariant-loop-left : goal.invariant-loop-left
invariant-loop-left l = fits l.columns l.left ≡ fits l.room l.cells

abbrev pub decreases-loop-left : goal.decreases-loop-left
decreases-loop-left l = length l.left
