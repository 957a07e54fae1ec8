-- Which entries of a package are looked for, and the first that is kept beside another package.
use Rattle.std.specs.Prelude.{ℕ, Bool, true, false, not, ◌&&◌, List, Option}
use Rattle.std.specs.List.{find}
use Rattle.std.specs.Option.{option_map}
use Rattle.script_names.specs.Paths.{PathParts}
use Rattle.dpkg_scenarios.specs.declared.columns.NewEntries.{NewEntries}
use Rattle.dpkg_scenarios.specs.declared.columns.NewEntries.TheVariants.{Every, Added, NoEntry}
use Rattle.package_lists.specs.declared.entry_sets.Which.{Which}
use Rattle.package_lists.specs.declared.entry_sets.Which.TheVariants.{All, Files, Conffiles, Links}
use Rattle.package_lists.specs.declared.kind.EntryKind.{EntryKind}
use Rattle.package_lists.specs.Entries.{EntryParts, is_any, is_file, is_folder, is_conf, is_link, has_at}
use Rattle.package_lists.specs.Paths.{Paths, path_text, plain_path}

-- whether an entry of this kind is
abbrev pub is_which : Which → EntryKind → Bool
is_which All = is_any
is_which Files = is_file
is_which Conffiles = is_conf
is_which Links = is_link

-- whether the entry of the new package at a path is one of these, by the paths that the old package has
abbrev pub is_one_of : NewEntries → Paths → List ℕ → Bool
is_one_of Every old path = true
is_one_of Added old path = not (old path)
is_one_of NoEntry old path = false

-- whether an entry is kept where a package is installed that lists these paths: it is no folder, and is not listed
abbrev pub is_kept : Paths → EntryParts → Bool
is_kept listed entry = not (is_folder entry.kind) && not (listed (path_text entry.names))

-- the path of the first entry of the other package that is kept beside the new one's
abbrev pub kept_path : List EntryParts → List EntryParts → Option PathParts
kept_path new other = option_map (λ entry. plain_path entry.names) (find (is_kept (has_at is_any new)) other)
