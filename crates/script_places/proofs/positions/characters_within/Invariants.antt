use Rattle.std.proofs.Common.{◌≡◌, ◌≤◌, ◌+◌, length}
use Rattle.script_places.specs.Positions.{characters_within}
use Rattle.script_places.proofs.positions.characters_within.Given as goal

abbrev pub invariant-loop-left : goal.invariant-loop-left
invariant-loop-left l = (l.count + characters_within l.passed l.within l.left ≡ characters_within 0 l.bytes l.text) × (l.count + length l.left ≤ length l.text)

abbrev pub decreases-loop-left : goal.decreases-loop-left
decreases-loop-left l = length l.left
