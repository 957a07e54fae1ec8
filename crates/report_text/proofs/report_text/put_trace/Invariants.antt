use Rattle.std.proofs.Common.{◌≡◌, ◌++◌, take}
use Rattle.std.specs.List.{flat_map}
use Rattle.report_text.specs.ReportText.{trace_mark}
use Rattle.report_text.proofs.report_text.put_trace.Given as goal

abbrev pub invariant-loop-mark : goal.invariant-loop-mark
invariant-loop-mark l = l.text ≡ l.initial.text ++ flat_map trace_mark (take l.mark-index l.trace)
