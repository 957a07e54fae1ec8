use Rattle.std.proofs.Common.{◌≡◌, length}
use Rattle.script_places.specs.Unreached.{has_parens}
use Rattle.script_places.proofs.reach.has_parens.Given as goal

abbrev pub invariant-loop-left : goal.invariant-loop-left
invariant-loop-left l = has_parens l.left ≡ has_parens l.text

abbrev pub decreases-loop-left : goal.decreases-loop-left
decreases-loop-left l = length l.left
