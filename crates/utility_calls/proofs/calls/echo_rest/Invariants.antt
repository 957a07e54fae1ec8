use Rattle.std.proofs.Common.{◌≡◌, ◌++◌, length}
use Rattle.utility_calls.specs.Calls.{echo_rest}
use Rattle.utility_calls.proofs.calls.echo_rest.Given as goal

abbrev pub invariant-loop-left : goal.invariant-loop-left
invariant-loop-left l = l.text ++ echo_rest l.left ≡ l.fn.before ++ echo_rest l.fn.words

abbrev pub decreases-loop-left : goal.decreases-loop-left
decreases-loop-left l = length l.left
