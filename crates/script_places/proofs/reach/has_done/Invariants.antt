use Rattle.std.proofs.Common.{◌≡◌, length}
use Rattle.script_places.specs.Unreached.{has_done}
use Rattle.script_places.proofs.reach.has_done.Given as goal

abbrev pub invariant-loop-left : goal.invariant-loop-left
invariant-loop-left l = has_done l.left ≡ has_done l.text

abbrev pub decreases-loop-left : goal.decreases-loop-left
decreases-loop-left l = length l.left
