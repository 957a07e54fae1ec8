use Rattle.std.proofs.Common.{◌≡◌, drop}
use Rattle.std.specs.List.{find}
use Rattle.package_lists.specs.EntrySets.{is_kept}
use Rattle.package_lists.specs.PathSets.{has}
use Rattle.package_lists.proofs.kept.first_kept.Given as goal

abbrev pub invariant-loop-entry : goal.invariant-loop-entry
invariant-loop-entry l = find (is_kept (has l.listed)) (drop l.entry-index l.other) ≡ find (is_kept (has l.listed)) l.other
