use Rattle.std.proofs.Common.{◌≡◌, length}
use Rattle.script_places.specs.WordPlaces.{has_value}
use Rattle.script_places.proofs.word_places.has_value.Given as goal

abbrev pub invariant-loop-left : goal.invariant-loop-left
invariant-loop-left l = has_value l.left ≡ has_value l.text

abbrev pub decreases-loop-left : goal.decreases-loop-left
decreases-loop-left l = length l.left
