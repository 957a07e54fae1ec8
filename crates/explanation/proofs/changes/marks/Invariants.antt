use Rattle.std.proofs.Common.{◌≡◌, length}
use Rattle.explanation.specs.Changes.{marks}
use Rattle.explanation.proofs.changes.marks.Given as goal

abbrev pub invariant-loop-left : goal.invariant-loop-left
invariant-loop-left l = marks l.places l.left ≡ marks l.places l.boxes

abbrev pub decreases-loop-left : goal.decreases-loop-left
decreases-loop-left l = length l.left
