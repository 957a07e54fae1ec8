use Rattle.std.proofs.Common.{◌≡◌, ◌++◌, take}
use Rattle.std.specs.List.{flat_map}
use Rattle.explanation_pages.specs.Rows.{end_if}
use Rattle.explanation_pages.proofs.rows.put_ends.Given as goal

abbrev pub invariant-loop-group : goal.invariant-loop-group
invariant-loop-group l =
    l.text ≡ l.initial.text ++ flat_map (end_if l.sources l.table l.part l.line) (take l.group-index l.groups)
