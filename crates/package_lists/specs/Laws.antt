-- What holds of paths as they are written.
use Rattle.std.specs.Prelude.{◌≡◌, ℕ, List, Some}
use Rattle.package_lists.specs.Paths.{path_names, path_text}

-- what was read as a path is written so again: so two paths are the same exactly where they are written alike
abbrev pub WritesBack : Type 0
WritesBack = (text : List ℕ) (names : List (List ℕ)) → path_names text ≡ Some names → path_text names ≡ text
