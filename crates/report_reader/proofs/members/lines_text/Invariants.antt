use Rattle.std.proofs.Common.{◌≡◌, [], drop}
use Rattle.serde_json.specs.View.{items_view}
use Rattle.report_reader.specs.ReportRead.{lines_onto}
use Rattle.report_reader.proofs.members.lines_text.Given as goal

abbrev pub invariant-loop-value : goal.invariant-loop-value
invariant-loop-value l = lines_onto l.text (items_view (drop l.value-index l.list)) ≡ lines_onto [] (items_view l.list)
