use Rattle.std.proofs.Common.{◌≡◌, length}
use Rattle.explanation.specs.Changes.{with_places}
use Rattle.explanation.proofs.changes.put_places.Given as goal

abbrev pub invariant-loop-left : goal.invariant-loop-left
invariant-loop-left l = with_places l.paths l.left ≡ with_places l.initial.paths l.facts

abbrev pub decreases-loop-left : goal.decreases-loop-left
decreases-loop-left l = length l.left
