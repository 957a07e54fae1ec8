use Rattle.std.proofs.Common.{◌≡◌, length, Some}
use Rattle.script_places.specs.Unreached.{lowest_end}
use Rattle.script_places.proofs.reach.lowest_end.Given as goal

abbrev pub invariant-loop-left : goal.invariant-loop-left
invariant-loop-left l = lowest_end l.script l.low l.left ≡ lowest_end l.script (Some 0) l.calls

abbrev pub decreases-loop-left : goal.decreases-loop-left
decreases-loop-left l = length l.left
