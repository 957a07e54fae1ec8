use Rattle.std.proofs.Common.{◌≡◌, map, take}
use Rattle.serde_json.specs.Data.{string}
use Rattle.serde_json.specs.View.{view}
use Rattle.tree_clauses.specs.ClauseText.{literal_content}
use Rattle.report_json.proofs.values.literals_value.Given as goal

abbrev pub invariant-loop-literal : goal.invariant-loop-literal
invariant-loop-literal l = map view l.list.items ≡ map string (map (literal_content l.version) (take l.literal-index l.literals))
