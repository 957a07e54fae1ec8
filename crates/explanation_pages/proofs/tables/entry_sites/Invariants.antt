use Rattle.std.proofs.Common.{◌≡◌, take}
use Rattle.std.specs.List.{flat_map}
use Rattle.explanation_pages.specs.Tables.{mark_site}
use Rattle.explanation_pages.proofs.tables.entry_sites.Given as goal

abbrev pub invariant-loop-mark : goal.invariant-loop-mark
invariant-loop-mark l = l.sites ≡ flat_map (mark_site l.sources l.table) (take l.mark-index l.entry.outcome.trace)
