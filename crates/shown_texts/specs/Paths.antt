-- Paths as they are shown.
use Rattle.std.specs.Prelude.{ℕ, Bool, ◌&&◌, ◌==◌, List, [], ◌∷◌, ◌++◌, map, Option, Some, None, if◌then◌else◌}
use Rattle.std.specs.List.{join_with_byte, list_all}
use Rattle.std.specs.Option.{option_and_then}
use Rattle.script_names.specs.Ascii.{slash}
use Rattle.script_names.specs.Names.{is_name}
use Rattle.script_names.specs.Paths.{is_filled}
use Rattle.shown_texts.specs.Parts.{parts}
use Rattle.shown_texts.specs.Show.{show, are_bytes, shown_of}

-- a name as a path has it, behind a slash
abbrev pub after_slash : List ℕ → List ℕ
after_slash name = slash ∷ show name

-- a path: `/` and its shown names joined by `/`
abbrev pub path_text : List (List ℕ) → List ℕ
path_text names = slash ∷ join_with_byte slash (map show names)

-- the name, where the bytes are one
abbrev pub if_name : List ℕ → Option (List ℕ)
if_name bytes = if is_name bytes then Some bytes else None

-- the name that is spelled so
abbrev pub name_of : List ℕ → Option (List ℕ)
name_of text = option_and_then if_name (shown_of text)

-- the names that are spelled so, behind others
abbrev pub names_onto : List (List ℕ) → List (List ℕ) → Option (List (List ℕ))
names_onto names [] = Some names
names_onto names (text ∷ texts) = option_and_then (λ name. names_onto (names ++ name ∷ []) texts) (name_of text)

-- the names that are spelled so, joined by slashes
abbrev pub names_of : List ℕ → Option (List (List ℕ))
names_of text = if is_filled text then names_onto [] (parts slash text) else Some []

-- the names of the path that is shown so
abbrev pub path_of : List ℕ → Option (List (List ℕ))
path_of [] = None
path_of (b ∷ text) = if b == slash then names_of text else None

-- names of bytes
abbrev pub are_names : List (List ℕ) → Bool
are_names names = list_all (λ name. is_name name && are_bytes name) names
