use Rattle.std.proofs.Common.{length}
use Rattle.report_text.specs.Whole.{AllRepresentable}
use Rattle.report_text.proofs.representable.are_entries.Given as goal

abbrev pub invariant-loop-left : goal.invariant-loop-left
invariant-loop-left l = AllRepresentable l.left → AllRepresentable l.entries

abbrev pub decreases-loop-left : goal.decreases-loop-left
decreases-loop-left l = length l.left
