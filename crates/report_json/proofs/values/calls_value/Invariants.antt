use Rattle.std.proofs.Common.{◌≡◌, map, take}
use Rattle.serde_json.specs.Data.{string}
use Rattle.serde_json.specs.View.{view}
use Rattle.report_text.specs.ReportText.{call_content}
use Rattle.report_json.proofs.values.calls_value.Given as goal

abbrev pub invariant-loop-call : goal.invariant-loop-call
invariant-loop-call l = map view l.list.items ≡ map string (map call_content (take l.call-index l.calls))
