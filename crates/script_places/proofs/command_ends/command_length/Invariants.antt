use Rattle.std.proofs.Common.{◌≡◌, ◌≤◌, ◌+◌, length}
use Rattle.script_places.specs.CommandEnds.{command_length, length_from, scan_of}
use Rattle.script_places.proofs.CommandEnds.{reached}
use Rattle.script_places.proofs.command_ends.command_length.Given as goal

abbrev pub invariant-loop-left : goal.invariant-loop-left
invariant-loop-left l =
    (reached l.size l.passed (length_from (scan_of l.within l.around.items) l.left) ≡ command_length l.text)
    × (l.passed + length l.left ≡ length l.text) × (l.size ≤ l.passed)

abbrev pub decreases-loop-left : goal.decreases-loop-left
decreases-loop-left l = length l.left
