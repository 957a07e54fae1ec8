use Rattle.std.proofs.Common.{◌≡◌, length}
use Rattle.script_places.specs.Unreached.{is_closed}
use Rattle.script_places.proofs.reach.is_closed.Given as goal

abbrev pub invariant-loop-left : goal.invariant-loop-left
invariant-loop-left l = is_closed l.left ≡ is_closed l.text

abbrev pub decreases-loop-left : goal.decreases-loop-left
decreases-loop-left l = length l.left
