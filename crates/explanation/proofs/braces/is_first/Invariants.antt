use Rattle.std.proofs.Common.{◌≡◌, length}
use Rattle.explanation.specs.Braces.{is_first}
use Rattle.explanation.proofs.braces.is_first.Given as goal

abbrev pub invariant-loop-left : goal.invariant-loop-left
invariant-loop-left l = is_first l.facts l.left l.fact ≡ is_first l.facts l.facts l.fact

abbrev pub decreases-loop-left : goal.decreases-loop-left
decreases-loop-left l = length l.left
