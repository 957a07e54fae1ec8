use Rattle.std.proofs.Common.{length}
use Rattle.report_text.specs.Whole.{AllPartsRepresentable}
use Rattle.report_text.proofs.representable.are_parts.Given as goal

abbrev pub invariant-loop-left : goal.invariant-loop-left
invariant-loop-left l = AllPartsRepresentable l.left → AllPartsRepresentable l.parts

abbrev pub decreases-loop-left : goal.decreases-loop-left
decreases-loop-left l = length l.left
