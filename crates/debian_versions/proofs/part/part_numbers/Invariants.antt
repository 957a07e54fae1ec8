use Rattle.std.proofs.Common.{◌≡◌, ◌++◌, length}
use Rattle.debian_versions.specs.Parts.{part, part_from}
use Rattle.debian_versions.proofs.part.part_numbers.Given as goal

abbrev pub invariant-loop-left : goal.invariant-loop-left
invariant-loop-left l = l.key ++ part_from l.behind_digit l.left ≡ part l.text

abbrev pub decreases-loop-left : goal.decreases-loop-left
decreases-loop-left l = length l.left
