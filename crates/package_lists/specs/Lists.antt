-- The list of a package's files (dpkg's `/var/lib/dpkg/info/PACKAGE.list`, in which a directory without entries may end
-- in `/`, and a symbolic link may have ` -> ` and its target): what a line says, and the entries of all lines.
use Rattle.std.specs.Prelude.{ℕ, ◌+◌, ◌-◌, Bool, not, ◌&&◌, ◌||◌, nat_eq, List, [], ◌∷◌, ◌++◌, length}
use Rattle.std.specs.Prelude.{take, drop, map, codes, Option, Some, None, Result, Ok, Err, if◌then◌else◌}
use Rattle.std.specs.List.{list_any, starts_with, ends_with}
use Rattle.std.specs.Str.{bytes_eq}
use Rattle.script_names.specs.Paths.{is_filled, is_nul}
use Rattle.feature_trees.specs.TreeLines.{text_lines}
use Rattle.package_lists.specs.declared.fault.LineFault.{LineFault}
use Rattle.package_lists.specs.declared.fault.LineFault.TheVariants.{Line}
use Rattle.package_lists.specs.declared.kind.EntryKind.{EntryKind}
use Rattle.package_lists.specs.declared.kind.EntryKind.TheVariants.{Folder, File, LinkTo}
use Rattle.package_lists.specs.declared.list.Said.{Said}
use Rattle.package_lists.specs.declared.list.Said.TheVariants.{Nothing, Root, Names}
use Rattle.package_lists.specs.Entries.{EntryParts, entry_at, is_any, is_file, is_link, has_at}
use Rattle.package_lists.specs.Entries.{has_below}
use Rattle.package_lists.specs.Faults.{and_then}
use Rattle.package_lists.specs.Paths.{path_text, folders}

-- what stands before an arrow and behind it
abbrev pub Halves : Type 0
Halves = List ℕ × List ℕ

-- with a byte more before it
abbrev pub byte_before : ℕ → Option Halves → Option Halves
byte_before b None = None
byte_before b (Some halves) = Some (b ∷ halves.0, halves.1)

-- the halves of a line that is cut at its first ` -> `, where there is one
abbrev pub cut_at_arrow : List ℕ → Option Halves
cut_at_arrow [] = None
cut_at_arrow (b ∷ bs) =
    if starts_with nat_eq (b ∷ bs) (codes " -> ") then Some ([], drop 4 (b ∷ bs)) else byte_before b (cut_at_arrow bs)

-- what may be the target of a link: bytes, none of them NUL
abbrev pub is_target : List ℕ → Bool
is_target target = is_filled target && not (list_any is_nul target)

-- an entry that a line says, where there is one
abbrev pub said_of : Option EntryParts → Said
said_of None = Nothing
said_of (Some entry) = Names entry

-- what a line without an arrow says: the root, a directory by its slash, or else, as yet, a file
abbrev pub plain_line : List ℕ → Said
plain_line line =
    if bytes_eq line (codes "/.") then Root
    else (if ends_with nat_eq line (codes "/") then said_of (entry_at (take (length line - 1) line) Folder)
    else said_of (entry_at line File))

-- what a link's line says
abbrev pub link_line : List ℕ → List ℕ → Said
link_line path target = if is_target target then said_of (entry_at path (LinkTo target)) else Nothing

-- what a line says; nothing, where it is not of the form
abbrev pub line_of : Option Halves → List ℕ → Said
line_of None line = plain_line line
line_of (Some halves) line = link_line halves.0 halves.1

-- what a line says, from the line alone
abbrev pub line_says : List ℕ → Said
line_says line = line_of (cut_at_arrow line) line

-- whether a link and an entry below its path would stand in one list: the entry is the link, or the one below
abbrev pub crosses : List EntryParts → EntryParts → Bool
crosses before entry =
    (is_link entry.kind && has_below before (path_text entry.names))
    || list_any (has_at is_link before) (folders entry.names)

-- why an entry cannot stand behind those before it, if it cannot: 2, its path is named already; 3, it is a link with
-- something below it, or it is below a link
abbrev pub entry_why : List EntryParts → EntryParts → Option ℕ
entry_why before entry =
    if has_at is_any before (path_text entry.names) then Some 2
    else (if crosses before entry then Some 3 else None)

-- the entries before line n with its own, or its fault
abbrev pub with_entry : ℕ → List EntryParts → EntryParts → Option ℕ → Result (List EntryParts) LineFault
with_entry n before entry None = Ok (before ++ entry ∷ [])
with_entry n before entry (Some why) = Err (Line n why)

-- the entries before line n with what it says, or its fault: 1, it is not of the form
abbrev pub with_line : ℕ → List EntryParts → Said → Result (List EntryParts) LineFault
with_line n before Nothing = Err (Line n 1)
with_line n before Root = Ok before
with_line n before (Names entry) = with_entry n before entry (entry_why before entry)

-- the entries of lines from line n on, each behind those before it, or the first fault
abbrev pub with_lines : ℕ → List EntryParts → List (List ℕ) → Result (List EntryParts) LineFault
with_lines n before [] = Ok before
with_lines n before (line ∷ lines) =
    and_then (λ more. with_lines (n + 1) more lines) (with_line n before (line_says line))

-- a path that something is listed below is a directory's
abbrev pub kind_in : List EntryParts → EntryParts → EntryKind
kind_in all entry = if is_file entry.kind && has_below all (path_text entry.names) then Folder else entry.kind

-- an entry with that kind
abbrev pub finished_entry : List EntryParts → EntryParts → EntryParts
finished_entry all entry = record { names = entry.names; kind = kind_in all entry }

-- the entries of the list, each with its kind
abbrev pub finished : List EntryParts → List EntryParts
finished all = map (finished_entry all) all

-- the entries of a list, or its least line at fault, and why
abbrev pub list_of : List ℕ → Result (List EntryParts) LineFault
list_of text = and_then (λ all. Ok (finished all)) (with_lines 1 [] (text_lines text))
