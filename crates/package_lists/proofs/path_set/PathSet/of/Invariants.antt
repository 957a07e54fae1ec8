use Rattle.std.proofs.Common.{◌≡◌, ℕ, List, take}
use Rattle.package_lists.specs.Paths.{is_among, path_texts}
use Rattle.package_lists.specs.PathSets.{has}
use Rattle.package_lists.proofs.path_set.PathSet.of.Given as goal

abbrev pub invariant-loop-path : goal.invariant-loop-path
invariant-loop-path l = (path : List ℕ) → has l.set path ≡ is_among (path_texts (take l.path-index l.paths)) path
