use Rattle.std.proofs.Common.{◌≡◌, ◌||◌, ◌&&◌, drop}
use Rattle.shell_words.specs.Patterns.{begins_with, has_pair}
use Rattle.shell_words.proofs.pattern.has_pair.Given as goal

abbrev pub invariant-loop-letter : goal.invariant-loop-letter
invariant-loop-letter l =
    ((l.before && begins_with l.second (drop l.letter-index l.letters)) || has_pair l.first l.second (drop l.letter-index l.letters)) ≡ has_pair l.first l.second l.letters
