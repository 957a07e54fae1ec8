-- Which names there are below a folder.
use Rattle.std.specs.Prelude.{ℕ, List, [], Option, Some, None}
use Rattle.std.specs.BTreeMap.{get_by}
use Rattle.std.specs.Ordering.{nat_cmp}
use Rattle.std.specs.Cmp.Lexicographic.{slice_cmp}
use Rattle.package_lists.specs.declared.folder_names.FolderNames.{FolderNames}

-- the names that are kept, or none
abbrev pub or_none : Option (List (List ℕ)) → List (List ℕ)
or_none None = []
or_none (Some names) = names

-- the names directly below the path that is written so
abbrev pub names_at : FolderNames → List ℕ → List (List ℕ)
names_at all path = or_none (get_by (λ key. slice_cmp nat_cmp path key.items) all.names)
