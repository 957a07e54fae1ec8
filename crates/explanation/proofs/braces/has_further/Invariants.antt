use Rattle.std.proofs.Common.{◌≡◌, length}
use Rattle.std.specs.List.{list_any}
use Rattle.explanation.specs.Braces.{is_further}
use Rattle.explanation.proofs.braces.has_further.Given as goal

abbrev pub invariant-loop-left : goal.invariant-loop-left
invariant-loop-left l = list_any (is_further l.facts l.fact) l.left ≡ list_any (is_further l.facts l.fact) l.facts

abbrev pub decreases-loop-left : goal.decreases-loop-left
decreases-loop-left l = length l.left
