use Rattle.std.proofs.Common.{◌≡◌, length}
use Rattle.std.specs.List.{list_any}
use Rattle.explanation.specs.Changes.{is_refuted}
use Rattle.explanation.proofs.changes.some_refuted.Given as goal

abbrev pub invariant-loop-left : goal.invariant-loop-left
invariant-loop-left l = list_any (is_refuted l.places) l.left ≡ list_any (is_refuted l.places) l.facts

abbrev pub decreases-loop-left : goal.decreases-loop-left
decreases-loop-left l = length l.left
