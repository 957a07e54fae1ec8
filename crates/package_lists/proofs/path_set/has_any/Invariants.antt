use Rattle.std.proofs.Common.{◌≡◌, take, false}
use Rattle.std.specs.List.{list_any}
use Rattle.package_lists.specs.PathSets.{has}
use Rattle.package_lists.proofs.path_set.has_any.Given as goal

abbrev pub invariant-loop-path : goal.invariant-loop-path
invariant-loop-path l = list_any (has l.set) (take l.path-index l.paths) ≡ false
