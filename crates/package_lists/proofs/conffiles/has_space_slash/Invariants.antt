use Rattle.std.proofs.Common.{◌≡◌, length}
use Rattle.package_lists.specs.Conffiles.{has_space_slash}
use Rattle.package_lists.proofs.conffiles.has_space_slash.Given as goal

abbrev pub invariant-loop-left : goal.invariant-loop-left
invariant-loop-left l = has_space_slash l.line ≡ has_space_slash l.left

abbrev pub decreases-loop-left : goal.decreases-loop-left
decreases-loop-left l = length l.left
