use Rattle.std.proofs.Common.{◌≡◌, ◌++◌, length}
use Rattle.shown_texts.specs.Show.{bytes_after}
use Rattle.shown_texts.proofs.spelling.read_bytes.Given as goal

abbrev pub invariant-loop-left : goal.invariant-loop-left
invariant-loop-left l = l.bytes ++ bytes_after l.passed l.left ≡ bytes_after 0 l.text

abbrev pub decreases-loop-left : goal.decreases-loop-left
decreases-loop-left l = length l.left
