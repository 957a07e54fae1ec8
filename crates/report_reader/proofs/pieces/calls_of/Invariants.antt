use Rattle.std.proofs.Common.{◌≡◌, [], drop}
use Rattle.serde_json.specs.View.{items_view}
use Rattle.report_reader.specs.ReportRead.{calls_onto}
use Rattle.report_reader.proofs.pieces.calls_of.Given as goal

abbrev pub invariant-loop-value : goal.invariant-loop-value
invariant-loop-value l = calls_onto l.calls (items_view (drop l.value-index l.list)) ≡ calls_onto [] (items_view l.list)
