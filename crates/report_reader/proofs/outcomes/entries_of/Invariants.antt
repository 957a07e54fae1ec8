use Rattle.std.proofs.Common.{◌≡◌, [], drop}
use Rattle.serde_json.specs.View.{items_view}
use Rattle.report_reader.specs.ReportRead.{entries_onto}
use Rattle.report_reader.proofs.outcomes.entries_of.Given as goal

abbrev pub invariant-loop-value : goal.invariant-loop-value
invariant-loop-value l = entries_onto l.number l.entries (items_view (drop l.value-index l.list)) ≡ entries_onto 1 [] (items_view l.list)
