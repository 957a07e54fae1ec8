-- A path in a package's files, `/` and its names joined by `/`, and the folders on the way to it.
use Rattle.std.specs.Prelude.{ℕ, zero, suc, ◌-◌, Bool, false, ◌&&◌, ◌||◌, ◌==◌, nat_lt, nat_le, List, [], ◌∷◌, ◌++◌}
use Rattle.std.specs.Prelude.{length, map, take, Option, Some, None, if◌then◌else◌}
use Rattle.std.specs.List.{flat_map, list_all, list_any}
use Rattle.std.specs.Option.{option_map}
use Rattle.std.specs.Str.{bytes_eq}
use Rattle.script_names.specs.Ascii.{slash}
use Rattle.script_names.specs.declared.path.TheConstants.{MAX_NAMES}
use Rattle.script_names.specs.Names.{is_name}
use Rattle.script_names.specs.Paths.{PathParts}
use Rattle.shown_texts.specs.Parts.{parts}

-- the names, where these are 1 to 64 names
abbrev pub if_names : List (List ℕ) → Option (List (List ℕ))
if_names names =
    if nat_lt 0 (length names) && nat_le (length names) MAX_NAMES && list_all is_name names then Some names else None

-- the names of the path that is written so
abbrev pub path_names : List ℕ → Option (List (List ℕ))
path_names [] = None
path_names (b ∷ rest) = if b == slash then if_names (parts slash rest) else None

-- the path of these names, without a slash behind them
abbrev pub plain_path : List (List ℕ) → PathParts
plain_path names = record { names = names; slash = false }

-- the path that is written so
abbrev pub path_of : List ℕ → Option PathParts
path_of text = option_map plain_path (path_names text)

-- how a path is written
abbrev pub path_text : List (List ℕ) → List ℕ
path_text names = flat_map (λ name. slash ∷ name) names

-- the paths of the first name, of the first two, and so on, up to so many
abbrev pub folders_to : List (List ℕ) → ℕ → List (List ℕ)
folders_to names zero = []
folders_to names (suc count) = folders_to names count ++ path_text (take (suc count) names) ∷ []

-- the folders on the way to a path: the paths of its first names, but not of all
abbrev pub folders : List (List ℕ) → List (List ℕ)
folders names = folders_to names (length names - 1)

-- a set of paths, as they are written
abbrev pub Paths : Type 0
Paths = List ℕ → Bool

-- whether a path is among others
abbrev pub is_among : List (List ℕ) → Paths
is_among paths path = list_any (λ other. bytes_eq other path) paths

-- these paths, as they are written
abbrev pub path_texts : List PathParts → List (List ℕ)
path_texts paths = map (λ path. path_text path.names) paths

-- whether a path is one of these or lies below one, name by name: the root, a folder on the way to it, or itself is one
abbrev pub is_within : Paths → List (List ℕ) → Bool
is_within paths names = paths (path_text []) || (list_any paths (folders names) || paths (path_text names))
