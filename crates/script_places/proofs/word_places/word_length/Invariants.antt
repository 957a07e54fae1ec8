use Rattle.std.proofs.Common.{◌≡◌, ◌+◌, length}
use Rattle.script_places.specs.WordPlaces.{word_length}
use Rattle.script_places.proofs.word_places.word_length.Given as goal

abbrev pub invariant-loop-left : goal.invariant-loop-left
invariant-loop-left l = (l.found + word_length l.left ≡ word_length l.text) × (l.found + length l.left ≡ length l.text)

abbrev pub decreases-loop-left : goal.decreases-loop-left
decreases-loop-left l = length l.left
