use Rattle.std.proofs.Common.{All, take}
use Rattle.package_lists.specs.Entries.{HasName}
use Rattle.package_lists.proofs.entry.entries_are_named.Given as goal

abbrev pub invariant-loop-entry : goal.invariant-loop-entry
invariant-loop-entry l = All HasName (take l.entry-index l.entries)
