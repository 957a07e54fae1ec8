-- What is known of the system on which a package is handled: the base, and the usual one.
use Rattle.std.specs.Prelude.{ℕ, ◌+◌, Bool, true, false, not, ◌&&◌, ◌||◌, ◌==◌, nat_eq, List, [], ◌∷◌, ◌++◌}
use Rattle.std.specs.Prelude.{take, drop, codes, Option, Some, None, Result, Ok, Err, if◌then◌else◌}
use Rattle.std.specs.List.{starts_with, list_any, position}
use Rattle.std.specs.Option.{option_map}
use Rattle.std.specs.Str.{bytes_eq}
use Rattle.script_names.specs.Ascii.{hash, space}
use Rattle.script_names.specs.Paths.{PathParts}
use Rattle.feature_trees.specs.declared.kind.Kind.TheVariants.{Absent, Reg, Dir}
use Rattle.feature_trees.specs.declared.kind.Kinds.{Kinds}
use Rattle.feature_trees.specs.Kinds.{of, but}
use Rattle.feature_trees.specs.TreeLines.{text_lines}
use Rattle.utility_calls.specs.declared.stated_call.CallEnd.{CallEnd}
use Rattle.utility_calls.specs.declared.stated_call.CallEnd.TheVariants.{Succeeds, Fails, Asks}
use Rattle.utility_calls.specs.StatedCalls.{is_stated}
use Rattle.utility_calls.specs.StatedNames.{can_be_stated}
use Rattle.link_walks.specs.Links.{LinkParts, known_link}
use Rattle.link_walks.specs.Reaching.{reach}
use Rattle.link_walks.specs.declared.walks.Reached.{Reached}
use Rattle.link_walks.specs.declared.walks.Reached.TheVariants.{At, Blocked}
use Rattle.package_lists.specs.declared.fault.LineFault.{LineFault}
use Rattle.package_lists.specs.declared.fault.LineFault.TheVariants.{Line}
use Rattle.system_base.specs.declared.base.Base.{Base}
use Rattle.system_base.specs.declared.base.KnownPath.{KnownPath}
use Rattle.package_lists.specs.Faults.{and_then}
use Rattle.package_lists.specs.Paths.{path_of, plain_path, path_text, folders}

-- ---- what a line says

-- nothing is known
abbrev pub nothing_known : Base
nothing_known = record {
  known = [];
  links = [];
  fits = false;
  own = [];
  calls = [];
  runs = false;
  removed = false;
  versions = false;
  plain = false;
}

-- a line that is passed over: an empty one, and one that begins with `#`
abbrev pub is_passed : List ℕ → Bool
is_passed [] = true
is_passed (b ∷ bs) = b == hash

-- the base with one of these kinds at the path that line n names; it is at fault where it names none
abbrev pub with_path : ℕ → Base → Kinds → Option PathParts → Result Base LineFault
with_path n base kinds None = Err (Line n 1)
with_path n base kinds (Some path) =
    Ok (record base { known = base.known ++ record { path = path; kinds = kinds } ∷ [] })

-- the base with what line n says of a path: a directory, a regular file, nothing, or no directory stands there
abbrev pub with_path_line : ℕ → Base → List ℕ → Result Base LineFault
with_path_line n base line =
    if starts_with nat_eq line (codes "dir ") then with_path n base (of Dir) (path_of (drop 4 line))
    else (if starts_with nat_eq line (codes "file ") then with_path n base (of Reg) (path_of (drop 5 line))
    else (if starts_with nat_eq line (codes "absent ") then with_path n base (of Absent) (path_of (drop 7 line))
    else (if starts_with nat_eq line (codes "nodir ") then with_path n base (but Dir) (path_of (drop 6 line))
    else Err (Line n 1))))

-- a text in two: what stands before its first space, and behind it
abbrev pub Halves : Type 0
Halves = List ℕ × List ℕ

-- the halves of a text of which a space stands here
abbrev pub halves_at : List ℕ → Option ℕ → Option Halves
halves_at text None = None
halves_at text (Some at) = Some (take at text, drop (at + 1) text)

-- where the first space of a text stands
abbrev pub first_space : List ℕ → Option ℕ
first_space text = position (λ b. b == space) text

-- the halves of a text, where it has a space
abbrev pub halves : List ℕ → Option Halves
halves text = halves_at text (first_space text)

-- the base in which the package's folders at the path that line n names, and below it, hold nothing foreign; it is at
-- fault where the line names none
abbrev pub with_own : ℕ → Base → Option PathParts → Result Base LineFault
with_own n base None = Err (Line n 1)
with_own n base (Some path) = Ok (record base { own = base.own ++ path ∷ [] })

-- the base with a known link that line n states; it is at fault where its target is none
abbrev pub with_known_link : ℕ → Base → Option LinkParts → Result Base LineFault
with_known_link n base None = Err (Line n 2)
with_known_link n base (Some link) = Ok (record base { links = base.links ++ link ∷ [] })

-- the base with the link from a path to a target, as line n states; it is at fault where there is no path
abbrev pub with_link_to : ℕ → Base → Option PathParts → List ℕ → Result Base LineFault
with_link_to n base None target = Err (Line n 1)
with_link_to n base (Some path) target = with_known_link n base (known_link path target)

-- the base with what stands behind `link` in line n: a path, and behind a space the target of the link there
abbrev pub with_link : ℕ → Base → Option Halves → Result Base LineFault
with_link n base None = Err (Line n 1)
with_link n base (Some two) = with_link_to n base (path_of two.0) two.1

-- how a call ends, as the words for it say: with success, with a failure, or as the question whether something stands
-- at a path
abbrev pub call_end : List ℕ → Option CallEnd
call_end words =
    if bytes_eq words (codes "ok") then Some Succeeds
    else (if bytes_eq words (codes "fails") then Some Fails
    else (if starts_with nat_eq words (codes "asks ") then option_map Asks (path_of (drop 5 words)) else None))

-- the base in which the calls of a name end so, as line n states; it is at fault where there is no such end, where the
-- name cannot be stated, and where the base states already how the calls of that name end
abbrev pub with_call_end : ℕ → Base → List ℕ → Option CallEnd → Result Base LineFault
with_call_end n base name None = Err (Line n 1)
with_call_end n base name (Some end) =
    if not (can_be_stated name) then Err (Line n 1)
    else (if is_stated base.calls name then Err (Line n 2)
    else Ok (record base { calls = base.calls ++ record { name = name; end = end } ∷ [] }))

-- the base with what stands behind `call` in line n: a name, and behind a space how its calls end
abbrev pub with_call : ℕ → Base → Option Halves → Result Base LineFault
with_call n base None = Err (Line n 1)
with_call n base (Some two) = with_call_end n base two.0 (call_end two.1)

-- the base with what a line of one word says, where it is one of these
abbrev pub with_word : Base → List ℕ → Option Base
with_word base line =
    if bytes_eq line (codes "fits") then Some (record base { fits = true })
    else (if bytes_eq line (codes "own") then Some (record base { own = base.own ++ plain_path [] ∷ [] })
    else (if bytes_eq line (codes "runs") then Some (record base { runs = true })
    else (if bytes_eq line (codes "removed") then Some (record base { removed = true })
    else (if bytes_eq line (codes "versions") then Some (record base { versions = true })
    else (if bytes_eq line (codes "plain") then Some (record base { plain = true }) else None)))))

-- the base with what line n says, whose first word stands before a space
abbrev pub with_words : ℕ → Base → List ℕ → Result Base LineFault
with_words n base line =
    if starts_with nat_eq line (codes "call ") then with_call n base (halves (drop 5 line))
    else (if starts_with nat_eq line (codes "link ") then with_link n base (halves (drop 5 line))
    else (if starts_with nat_eq line (codes "own ") then with_own n base (path_of (drop 4 line))
    else with_path_line n base line))

-- the base that a line of one word gave; where it was none, that with what line n says otherwise
abbrev pub word_or : ℕ → Base → List ℕ → Option Base → Result Base LineFault
word_or n base line (Some more) = Ok more
word_or n base line None = with_words n base line

-- The base of the lines before line n with what that line says, or why it cannot stand there: 1, it is not of the form;
-- 2, an earlier line states how the calls of its name end, or it states a link whose target is not of the form or leads
-- to a path of too many names.
abbrev pub with_line : ℕ → Base → List ℕ → Result Base LineFault
with_line n base line = if is_passed line then Ok base else word_or n base line (with_word base line)

-- ---- what a text says

-- the base with lines from line n on, or the first fault
abbrev pub with_lines : ℕ → Base → List (List ℕ) → Result Base LineFault
with_lines n base [] = Ok base
with_lines n base (line ∷ lines) = and_then (λ more. with_lines (n + 1) more lines) (with_line n base line)

-- what a text says of the system, or its least line at fault
abbrev pub base_of : List ℕ → Result Base LineFault
base_of text = with_lines 1 nothing_known (text_lines text)

-- ---- the usual base

-- directories of the Filesystem Hierarchy Standard, and that the package's entries fit what stands there
abbrev pub usual_text : List ℕ
usual_text =
    codes "dir /etc\ndir /usr\ndir /usr/bin\ndir /usr/sbin\ndir /usr/lib\ndir /usr/share\ndir /usr/share/doc\n"
    ++ codes "dir /var\ndir /var/lib\ndir /var/log\ndir /var/cache\ndir /srv\ndir /tmp\nfits\n"

-- the base that was read; a text at fault says nothing
abbrev pub known_of : Result Base LineFault → Base
known_of (Ok base) = base
known_of (Err fault) = nothing_known

-- the usual base: what that text says
unfoldable pub usual : Base
usual = known_of (base_of usual_text)

-- ---- the directories of a base

-- of these kinds a directory is the one
abbrev pub is_directory : Kinds → Bool
is_directory kinds =
    kinds.dir && (not kinds.absent && (not kinds.reg && (not kinds.link
    && (not kinds.fifo && (not kinds.socket && (not kinds.block && not kinds.char))))))

-- a path is this one, or that of a folder on the way to it
abbrev pub is_on_way : List ℕ → PathParts → Bool
is_on_way path end =
    bytes_eq (path_text end.names) path || list_any (λ folder. bytes_eq folder path) (folders end.names)

-- a directory stands at a path, or below it
abbrev pub is_base_at : List ℕ → KnownPath → Bool
is_base_at path known = is_directory known.kinds && is_on_way path known.path

-- a path is that where a known link ends, or that of a folder on the way there
abbrev pub is_on_way_to : List ℕ → Reached → Bool
is_on_way_to path (At end) = is_on_way path end
is_on_way_to path (Blocked link) = false

-- among these links one leads to a path, or to a path below it
abbrev pub is_end_at : List LinkParts → List ℕ → LinkParts → Bool
is_end_at links path link = is_on_way_to path (reach links true link.at)

-- a path is a base directory: it is known that a directory stands there, or below it, since a line says so or since a
-- known link leads there
abbrev pub is_base : Base → List ℕ → Bool
is_base base path = list_any (is_base_at path) base.known || list_any (is_end_at base.links path) base.links
