-- The configuration files of a package (Debian Policy, 10.7; dpkg's `/var/lib/dpkg/info/PACKAGE.conffiles`).
use Rattle.std.specs.Prelude.{ℕ, ◌+◌, Bool, false, not, ◌&&◌, ◌||◌, ◌==◌, nat_eq, List, [], ◌∷◌, ◌++◌, map, codes}
use Rattle.std.specs.Prelude.{Option, Some, None, Result, Ok, Err, if◌then◌else◌}
use Rattle.std.specs.List.{starts_with}
use Rattle.script_names.specs.Ascii.{slash}
use Rattle.script_names.specs.Paths.{PathParts}
use Rattle.feature_trees.specs.TreeLines.{text_lines}
use Rattle.package_lists.specs.declared.fault.LineFault.{LineFault}
use Rattle.package_lists.specs.declared.fault.LineFault.TheVariants.{Line}
use Rattle.package_lists.specs.declared.kind.EntryKind.{EntryKind}
use Rattle.package_lists.specs.declared.kind.EntryKind.TheVariants.{Conf}
use Rattle.package_lists.specs.Entries.{EntryParts, is_file, has_at}
use Rattle.package_lists.specs.Faults.{and_then}
use Rattle.package_lists.specs.Paths.{Paths, is_among, path_of, path_text}

-- a space directly before a slash somewhere
abbrev pub has_space_slash : List ℕ → Bool
has_space_slash [] = false
has_space_slash (b ∷ bs) = starts_with nat_eq (b ∷ bs) (codes " /") || has_space_slash bs

-- a line with a flag before its path, as `remove-on-upgrade /etc/a`
abbrev pub is_flagged : List ℕ → Bool
is_flagged [] = false
is_flagged (b ∷ bs) = not (b == slash) && has_space_slash (b ∷ bs)

-- why a line that is no path is at fault: 4, it has a flag; 1, it is not of the form
abbrev pub form_why : List ℕ → ℕ
form_why line = if is_flagged line then 4 else 1

-- why a path is at fault: 2, it is named already; 3, it is none of the files
abbrev pub path_why : Paths → Paths → List ℕ → Option ℕ
path_why files named path = if named path then Some 2 else (if files path then None else Some 3)

-- why a line is at fault, if it is
abbrev pub why_if : Option PathParts → Paths → Paths → List ℕ → Option ℕ
why_if None files named line = Some (form_why line)
why_if (Some path) files named line = path_why files named line

-- why a line is at fault, if it is, from the line alone
abbrev pub line_why : Paths → Paths → List ℕ → Option ℕ
line_why files named line = why_if (path_of line) files named line

-- the paths with line n, or its fault
abbrev pub with_conf : ℕ → List (List ℕ) → List ℕ → Option ℕ → Result (List (List ℕ)) LineFault
with_conf n before line None = Ok (before ++ line ∷ [])
with_conf n before line (Some why) = Err (Line n why)

-- the paths of lines from line n on, each behind those before it, or the first fault
abbrev pub with_confs : ℕ → Paths → List (List ℕ) → List (List ℕ) → Result (List (List ℕ)) LineFault
with_confs n files before [] = Ok before
with_confs n files before (line ∷ lines) =
    and_then (λ more. with_confs (n + 1) files more lines)
    (with_conf n before line (line_why files (is_among before) line))

-- a file with one of these paths is a configuration file
abbrev pub marked_kind : Paths → EntryParts → EntryKind
marked_kind named entry = if is_file entry.kind && named (path_text entry.names) then Conf else entry.kind

-- an entry with that kind
abbrev pub marked_entry : Paths → EntryParts → EntryParts
marked_entry named entry = record { names = entry.names; kind = marked_kind named entry }

-- the entries with their configuration files, or the least line at fault, and why
abbrev pub conffiles_of : List ℕ → List EntryParts → Result (List EntryParts) LineFault
conffiles_of text entries =
    and_then (λ paths. Ok (map (marked_entry (is_among paths)) entries))
    (with_confs 1 (has_at is_file entries) [] (text_lines text))
