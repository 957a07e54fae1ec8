use Rattle.std.proofs.Common.{◌≡◌, take}
use Rattle.std.specs.List.{flat_map}
use Rattle.explanation_pages.specs.Tables.{enders_if}
use Rattle.explanation_pages.proofs.tables.enders.Given as goal

abbrev pub invariant-loop-group : goal.invariant-loop-group
invariant-loop-group l = l.places ≡ flat_map (enders_if l.sources l.table l.verdict) (take l.group-index l.groups)
