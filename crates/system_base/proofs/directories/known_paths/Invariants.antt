use Rattle.std.proofs.Common.{◌≡◌, ℕ, List, take}
use Rattle.std.specs.List.{list_any}
use Rattle.system_base.specs.Bases.{is_base_at}
use Rattle.package_lists.specs.PathSets.{has}
use Rattle.system_base.proofs.directories.known_paths.Given as goal

abbrev pub invariant-loop-one : goal.invariant-loop-one
invariant-loop-one l = (path : List ℕ) → has l.set path ≡ list_any (is_base_at path) (take l.one-index l.known)
