use Rattle.std.proofs.Common.{◌≡◌, ◌++◌, length}
use Rattle.html_texts.specs.Visible.{visible_from, visible}
use Rattle.html_texts.proofs.visible.visible.Given as goal

abbrev pub invariant-loop-left : goal.invariant-loop-left
invariant-loop-left l = l.text ++ visible_from l.passed l.as_it_is l.left ≡ visible l.bytes

abbrev pub decreases-loop-left : goal.decreases-loop-left
decreases-loop-left l = length l.left
