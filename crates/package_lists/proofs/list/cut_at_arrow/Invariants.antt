use Rattle.std.proofs.Common.{◌≡◌, ◌≤◌, length, take, drop}
use Rattle.package_lists.specs.Lists.{cut_at_arrow}
use Rattle.package_lists.proofs.Arrows.{behind}
use Rattle.package_lists.proofs.list.cut_at_arrow.Given as goal

abbrev pub invariant-loop-i : goal.invariant-loop-i
invariant-loop-i l = (cut_at_arrow l.line ≡ behind (take l.i l.line) (cut_at_arrow (drop l.i l.line))) × (l.i ≤ length l.line)
