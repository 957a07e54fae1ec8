use Rattle.std.proofs.Common.{◌≡◌, length}
use Rattle.script_places.specs.MarkedDeeds.{deed_of_mark}
use Rattle.script_places.proofs.marked_deeds.deed_of_mark.Given as goal

abbrev pub invariant-loop-left : goal.invariant-loop-left
invariant-loop-left l = deed_of_mark l.left l.before ≡ deed_of_mark l.deeds l.marks_before

abbrev pub decreases-loop-left : goal.decreases-loop-left
decreases-loop-left l = length l.left
