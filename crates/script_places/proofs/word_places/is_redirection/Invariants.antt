use Rattle.std.proofs.Common.{◌≡◌, length}
use Rattle.script_places.specs.WordPlaces.{is_redirection}
use Rattle.script_places.proofs.word_places.is_redirection.Given as goal

abbrev pub invariant-loop-left : goal.invariant-loop-left
invariant-loop-left l = is_redirection l.left ≡ is_redirection l.text

abbrev pub decreases-loop-left : goal.decreases-loop-left
decreases-loop-left l = length l.left
