use Rattle.std.proofs.Common.{◌≡◌, ℕ, List}
use Rattle.package_lists.specs.Below.{names_to, with_names}
use Rattle.package_lists.specs.FolderNames.{names_at}
use Rattle.package_lists.proofs.folder_names.add_names.Given as goal

abbrev pub invariant-loop-count : goal.invariant-loop-count
invariant-loop-count l = (path : List ℕ) → names_at l.all path ≡ with_names (names_at l.fn.all path) (names_to path l.names l.count)
