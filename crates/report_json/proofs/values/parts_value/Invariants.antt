use Rattle.std.proofs.Common.{◌≡◌, map, take}
use Rattle.serde_json.specs.View.{view}
use Rattle.report_json.specs.ReportJson.{part_json}
use Rattle.report_json.proofs.values.parts_value.Given as goal

abbrev pub invariant-loop-part : goal.invariant-loop-part
invariant-loop-part l = map view l.list.items ≡ map (part_json l.version) (take l.part-index l.parts)
