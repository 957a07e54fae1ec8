use Rattle.std.proofs.Common.{◌≡◌, map, take}
use Rattle.feature_trees.specs.TreeText.{first_version_line}
use Rattle.report_json.proofs.values.first_lines.Given as goal

abbrev pub invariant-loop-line : goal.invariant-loop-line
invariant-loop-line l = l.found ≡ map first_version_line (take l.line-index l.lines)
