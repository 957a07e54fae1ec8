use Rattle.std.proofs.Common.{◌≡◌, ◌++◌, take}
use Rattle.std.specs.List.{flat_map}
use Rattle.explanation_pages.specs.Rows.{row_html}
use Rattle.explanation_pages.proofs.rows.put_rows.Given as goal

abbrev pub invariant-loop-line : goal.invariant-loop-line
invariant-loop-line l =
    l.text
    ≡ l.initial.text
    ++ flat_map (row_html l.sources l.table l.part l.groups l.sites l.left) (take l.line-index l.lines)
