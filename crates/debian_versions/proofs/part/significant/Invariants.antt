use Rattle.std.proofs.Common.{◌≡◌, length}
use Rattle.debian_versions.specs.Parts.{significant}
use Rattle.debian_versions.proofs.part.significant.Given as goal

abbrev pub invariant-loop-left : goal.invariant-loop-left
invariant-loop-left l = significant l.left ≡ significant l.digits

abbrev pub decreases-loop-left : goal.decreases-loop-left
decreases-loop-left l = length l.left
