use Rattle.std.proofs.Common.{◌≡◌, ◌++◌, length}
use Rattle.script_places.specs.CommandEnds.{scan_of}
use Rattle.script_places.specs.WordPlaces.{first_words, words_from}
use Rattle.script_places.proofs.word_places.first_words.Given as goal

abbrev pub invariant-loop-left : goal.invariant-loop-left
invariant-loop-left l =
    l.words ++ words_from (scan_of l.within l.around.items) l.role l.left ≡ first_words l.script

abbrev pub decreases-loop-left : goal.decreases-loop-left
decreases-loop-left l = length l.left
