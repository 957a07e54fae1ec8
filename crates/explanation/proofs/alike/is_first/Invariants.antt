use Rattle.std.proofs.Common.{◌≡◌, length}
use Rattle.explanation.specs.AlikeGroups.{is_first}
use Rattle.explanation.proofs.alike.is_first.Given as goal

abbrev pub invariant-loop-left : goal.invariant-loop-left
invariant-loop-left l = is_first l.sources l.scenario l.left l.group ≡ is_first l.sources l.scenario l.groups l.group

abbrev pub decreases-loop-left : goal.decreases-loop-left
decreases-loop-left l = length l.left
