use Rattle.std.proofs.Common.{◌≡◌, ◌++◌, map, length}
use Rattle.explanation_pages.specs.Tables.{entry_sites}
use Rattle.explanation_pages.proofs.tables.sites_of.Given as goal

abbrev pub invariant-loop-left : goal.invariant-loop-left
invariant-loop-left l =
    l.all ++ map (entry_sites l.sources l.table) l.left ≡ map (entry_sites l.sources l.table) l.entries

abbrev pub decreases-loop-left : goal.decreases-loop-left
decreases-loop-left l = length l.left
