use Rattle.std.proofs.Common.{◌≡◌, ◌++◌, take}
use Rattle.std.specs.List.{flat_map}
use Rattle.package_lists.specs.FolderNames.{names_at}
use Rattle.package_lists.specs.PathSets.{has}
use Rattle.package_jobs.specs.Needed.{own_needs}
use Rattle.package_jobs.proofs.own_needs.add_own_entries.Given as goal

abbrev pub invariant-loop-entry : goal.invariant-loop-entry
invariant-loop-entry l =
    let by = l.owning in
    l.needs ≡ l.initial.needs
    ++ flat_map (own_needs l.own (has by.paths) (has by.listed) (has by.based) (names_at by.names) l.links) (take l.entry-index l.entries)
