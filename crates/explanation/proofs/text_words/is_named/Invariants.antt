use Rattle.std.proofs.Common.{◌≡◌, true, length}
use Rattle.explanation.specs.CommandWords.{named_from}
use Rattle.explanation.proofs.text_words.is_named.Given as goal

abbrev pub invariant-loop-left : goal.invariant-loop-left
invariant-loop-left l = named_from l.may l.name l.left ≡ named_from true l.name l.text

abbrev pub decreases-loop-left : goal.decreases-loop-left
decreases-loop-left l = length l.left
