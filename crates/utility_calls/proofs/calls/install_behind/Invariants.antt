use Rattle.std.proofs.Common.{◌≡◌, false, length}
use Rattle.utility_calls.specs.Calls.{install_behind}
use Rattle.utility_calls.proofs.calls.install_behind.Given as goal

abbrev pub invariant-loop-left : goal.invariant-loop-left
invariant-loop-left l = install_behind l.made l.moded l.left ≡ install_behind false false l.words

abbrev pub decreases-loop-left : goal.decreases-loop-left
decreases-loop-left l = length l.left
