-- What a package lists: a path and what is to stand there.
use Rattle.std.specs.Prelude.{ℕ, ◌<◌, Bool, true, false, ◌&&◌, List, length, Option, Some, None}
use Rattle.std.specs.List.{list_any}
use Rattle.std.specs.Str.{bytes_eq}
use Rattle.package_lists.specs.declared.kind.EntryKind.{EntryKind}
use Rattle.package_lists.specs.declared.kind.EntryKind.TheVariants.{Folder, File, Conf, LinkTo}
use Rattle.package_lists.specs.Paths.{path_names, path_text, folders}

-- an entry: the names of its path, of which there is one at least, and what is to stand there
pub record EntryParts : Type 0 where
  pub names : List (List ℕ)
  pub kind : EntryKind

-- its path has a name
abbrev pub HasName : EntryParts → Type 0
HasName entry = 0 < length entry.names

-- the entry at the path that is written so, where there is one
abbrev pub entry_if : EntryKind → Option (List (List ℕ)) → Option EntryParts
entry_if kind None = None
entry_if kind (Some names) = Some (record { names = names; kind = kind })

-- the entry at a path, where there is one, from the text of the path
abbrev pub entry_at : List ℕ → EntryKind → Option EntryParts
entry_at path kind = entry_if kind (path_names path)

-- a folder
abbrev pub is_folder : EntryKind → Bool
is_folder Folder = true
is_folder _ = false

-- a regular file that is no configuration file
abbrev pub is_file : EntryKind → Bool
is_file File = true
is_file _ = false

-- a configuration file
abbrev pub is_conf : EntryKind → Bool
is_conf Conf = true
is_conf _ = false

-- a symbolic link
abbrev pub is_link : EntryKind → Bool
is_link (LinkTo target) = true
is_link _ = false

-- any kind
abbrev pub is_any : EntryKind → Bool
is_any kind = true

-- whether an entry stands at a path
abbrev pub is_at : List ℕ → EntryParts → Bool
is_at path entry = bytes_eq (path_text entry.names) path

-- whether it is also of such a kind
abbrev pub is_such_at : (EntryKind → Bool) → List ℕ → EntryParts → Bool
is_such_at such path entry = such entry.kind && is_at path entry

-- whether an entry lies below a path
abbrev pub is_below : List ℕ → EntryParts → Bool
is_below path entry = list_any (λ folder. bytes_eq folder path) (folders entry.names)

-- whether there is such an entry at a path
abbrev pub has_at : (EntryKind → Bool) → List EntryParts → List ℕ → Bool
has_at such entries path = list_any (is_such_at such path) entries

-- whether there is an entry below a path
abbrev pub has_below : List EntryParts → List ℕ → Bool
has_below entries path = list_any (is_below path) entries

-- whether an entry is a configuration file below a path
abbrev pub is_conf_below : List ℕ → EntryParts → Bool
is_conf_below path entry = is_conf entry.kind && is_below path entry

-- whether there is a configuration file below a path
abbrev pub has_conf_below : List EntryParts → List ℕ → Bool
has_conf_below entries path = list_any (is_conf_below path) entries
