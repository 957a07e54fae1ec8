use Rattle.std.proofs.Common.{◌≡◌, length}
use Rattle.std.specs.List.{list_any}
use Rattle.explanation.specs.FactTexts.{excludes}
use Rattle.explanation.proofs.facts_text.some_excludes.Given as goal

abbrev pub invariant-loop-left : goal.invariant-loop-left
invariant-loop-left l = list_any (excludes l.place) l.left ≡ list_any (excludes l.place) l.facts

abbrev pub decreases-loop-left : goal.decreases-loop-left
decreases-loop-left l = length l.left
