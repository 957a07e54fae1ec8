use Rattle.std.proofs.Common.{◌≡◌, ◌++◌, length}
use Rattle.script_places.specs.Unreached.{joined}
use Rattle.script_places.proofs.reach.joined.Given as goal

abbrev pub invariant-loop-left : goal.invariant-loop-left
invariant-loop-left l = l.bytes ++ joined l.left ≡ joined l.text

abbrev pub decreases-loop-left : goal.decreases-loop-left
decreases-loop-left l = length l.left
