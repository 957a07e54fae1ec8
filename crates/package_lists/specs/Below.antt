-- The names that paths have directly below another.
use Rattle.std.specs.Prelude.{ℕ, zero, suc, List, [], ◌∷◌, ◌++◌, length, take, drop, if◌then◌else◌}
use Rattle.std.specs.List.{flat_map, fold}
use Rattle.std.specs.Str.{bytes_eq}
use Rattle.script_names.specs.Paths.{PathParts}
use Rattle.package_lists.specs.Paths.{path_text, is_among}

-- the name that comes behind so many first ones, where these are the path that is written so
abbrev pub name_behind : List ℕ → List (List ℕ) → ℕ → List (List ℕ)
name_behind path names count = if bytes_eq (path_text (take count names)) path then take 1 (drop count names) else []

-- the same behind no name, behind the first, and so on, but behind fewer than so many
abbrev pub names_to : List ℕ → List (List ℕ) → ℕ → List (List ℕ)
names_to path names zero = []
names_to path names (suc count) = names_to path names count ++ name_behind path names count

-- the name with which these go on below a path, where they do
abbrev pub name_below : List ℕ → List (List ℕ) → List (List ℕ)
name_below path names = names_to path names (length names)

-- names and one more, unless it is there already
abbrev pub with_name : List (List ℕ) → List ℕ → List (List ℕ)
with_name names name = if is_among names name then names else names ++ name ∷ []

-- names and more of them, each once
abbrev pub with_names : List (List ℕ) → List (List ℕ) → List (List ℕ)
with_names names more = fold with_name names more

-- the names with which paths go on below another, each once, in their order
abbrev pub names_below : List PathParts → List ℕ → List (List ℕ)
names_below paths path = with_names [] (flat_map (λ p. name_below path p.names) paths)
