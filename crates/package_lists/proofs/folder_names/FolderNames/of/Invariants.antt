use Rattle.std.proofs.Common.{◌≡◌, ℕ, List, take}
use Rattle.package_lists.specs.Below.{names_below}
use Rattle.package_lists.specs.FolderNames.{names_at}
use Rattle.package_lists.proofs.folder_names.FolderNames.of.Given as goal

abbrev pub invariant-loop-path : goal.invariant-loop-path
invariant-loop-path l = (path : List ℕ) → names_at l.all path ≡ names_below (take l.path-index l.paths) path
