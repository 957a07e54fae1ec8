use Rattle.std.proofs.Common.{◌≡◌, ◌≤◌, ◌+◌, length}
use Rattle.script_places.specs.Positions.{behind_newline}
use Rattle.script_places.proofs.positions.behind_newline.Given as goal

abbrev pub invariant-loop-left : goal.invariant-loop-left
invariant-loop-left l = (behind_newline l.offset l.left ≡ behind_newline 0 l.text) × (l.offset + length l.left ≤ length l.text)

abbrev pub decreases-loop-left : goal.decreases-loop-left
decreases-loop-left l = length l.left
