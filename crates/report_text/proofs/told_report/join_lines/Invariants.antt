use Rattle.report_text.proofs.Joined.{JoinedSoFar}
use Rattle.report_text.proofs.told_report.join_lines.Given as goal

abbrev pub invariant-loop-part : goal.invariant-loop-part
invariant-loop-part l = JoinedSoFar l.fn.telling l.fn.told l.yielded l.part-iterator.rest.items l.text
