use Rattle.std.proofs.Common.{◌≡◌, length}
use Rattle.shell_to_colis.specs.Translated.{redirected_to}
use Rattle.shell_to_colis.proofs.redirections.redirected.Given as goal

abbrev pub invariant-loop-left : goal.invariant-loop-left
invariant-loop-left l = redirected_to l.at l.left l.stmt ≡ redirected_to l.at l.redirects l.fn.body

abbrev pub decreases-loop-left : goal.decreases-loop-left
decreases-loop-left l = length l.left
