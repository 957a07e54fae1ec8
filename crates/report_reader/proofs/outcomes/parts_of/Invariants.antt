use Rattle.std.proofs.Common.{◌≡◌, [], drop}
use Rattle.serde_json.specs.View.{items_view}
use Rattle.report_reader.specs.ReportRead.{parts_onto}
use Rattle.report_reader.proofs.outcomes.parts_of.Given as goal

abbrev pub invariant-loop-value : goal.invariant-loop-value
invariant-loop-value l = parts_onto l.least l.parts (items_view (drop l.value-index l.list)) ≡ parts_onto 0 [] (items_view l.list)
