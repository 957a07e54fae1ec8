use Rattle.std.proofs.Common.{◌≡◌, length}
use Rattle.utility_calls.specs.Modes.{behind_who}
use Rattle.utility_calls.proofs.modes.behind_who.Given as goal

abbrev pub invariant-loop-left : goal.invariant-loop-left
invariant-loop-left l = behind_who l.left ≡ behind_who l.clause

abbrev pub decreases-loop-left : goal.decreases-loop-left
decreases-loop-left l = length l.left
