use Rattle.std.proofs.Common.{◌≡◌, ◌≤◌, ◌+◌, length}
use Rattle.explanation_pages.specs.CutLines.{begun, cut_from}
use Rattle.explanation_pages.proofs.cut_lines.lines_of.Given as goal

abbrev pub invariant-loop-left : goal.invariant-loop-left
invariant-loop-left l =
    (cut_from l.cut l.left ≡ cut_from begun l.text)
    × ((l.cut.last.number ≤ l.cut.last.begin + 1)
    × (l.cut.last.begin + length l.cut.last.text + length l.left ≡ length l.text))

abbrev pub decreases-loop-left : goal.decreases-loop-left
decreases-loop-left l = length l.left
