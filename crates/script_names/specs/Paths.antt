-- What a word spells as a path (POSIX.1-2017, Base Definitions, 3.271 Pathname and 4.13 Pathname Resolution),
-- and what contracts see of a path.
use Rattle.std.specs.Prelude.{◌≡◌, ℕ, Bool, true, false, not, ◌&&◌, ◌==◌, nat_eq, nat_le, nat_lt, ◌<◌, ◌≤◌, IsTrue}
use Rattle.std.specs.Prelude.{List, [], ◌∷◌, ◌++◌, length, take, filter, Option, Some, None, Result, Ok, Err}
use Rattle.std.specs.Prelude.{if◌then◌else◌}
use Rattle.std.specs.List.{list_any, slice_split, last_or, ends_with}
use Rattle.std.specs.Option.{option_map_or}
use Rattle.script_names.specs.Ascii.{full_stop, nul, slash as slash_byte}
use Rattle.script_names.specs.declared.name.TheConstants.{NAME_MAX}
use Rattle.script_names.specs.declared.path.TheConstants.{MAX_NAMES}
use Rattle.script_names.specs.declared.path.PathFault.{PathFault}
use Rattle.script_names.specs.declared.path.PathFault.TheVariants.{Empty, Nul, DotDot, Dot, LongName, Many, Memory}

-- the names from the root on, and whether the word that spelled them ends in `/`
pub record PathParts : Type 0 where
  pub names : List (List ℕ)
  pub slash : Bool

-- what holds of each path: it has at most 64 names, and a slash only behind a name
abbrev pub IsPath : List (List ℕ) → Bool → Type 0
IsPath names slash = (length names ≤ MAX_NAMES) × (IsTrue slash → 0 < length names)

-- `/`
abbrev pub is_slash : ℕ → Bool
is_slash b = b == slash_byte

-- NUL
abbrev pub is_nul : ℕ → Bool
is_nul b = b == nul

-- the components of a word: what stands between its slashes, before the first and after the last too; each may be
-- empty
abbrev pub components : List ℕ → List (List ℕ)
components word = slice_split is_slash word

-- a component with a byte
abbrev pub is_filled : List ℕ → Bool
is_filled [] = false
is_filled (b ∷ bs) = true

-- `.`, which names the directory itself
abbrev pub is_dot : List ℕ → Bool
is_dot [] = false
is_dot (a ∷ []) = a == full_stop
is_dot (a ∷ b ∷ rest) = false

-- `..`, which names the directory above
abbrev pub is_dot_dot : List ℕ → Bool
is_dot_dot [] = false
is_dot_dot (a ∷ []) = false
is_dot_dot (a ∷ b ∷ []) = (a == full_stop) && (b == full_stop)
is_dot_dot (a ∷ b ∷ c ∷ rest) = false

-- more bytes than a name may have
abbrev pub is_long : List ℕ → Bool
is_long part = nat_lt NAME_MAX (length part)

-- a component that names an entry: neither empty nor `.`
abbrev pub names_entry : List ℕ → Bool
names_entry part = is_filled part && not (is_dot part)

-- the names that a word spells
abbrev pub spelled_names : List ℕ → List (List ℕ)
spelled_names word = filter names_entry (components word)

-- whether the last component that isn't empty is `.`
abbrev pub ends_in_dot : List ℕ → Bool
ends_in_dot word = option_map_or is_dot (last_or None (filter is_filled (components word))) false

-- the path that a word spells, where it spells one
abbrev pub path_of : List ℕ → PathParts
path_of word = record {
  names = spelled_names word;
  slash = nat_lt 0 (length (spelled_names word)) && ends_with nat_eq word (slash_byte ∷ []);
}

-- why a word spells no path: the first of these that applies
abbrev pub path_fault : List ℕ → Option PathFault
path_fault word =
    if not (is_filled word) then Some Empty
    else (if list_any is_nul word then Some Nul
    else (if list_any is_dot_dot (components word) then Some DotDot
    else (if ends_in_dot word then Some Dot
    else (if list_any is_long (components word) then Some LongName
    else (if nat_lt MAX_NAMES (length (spelled_names word)) then Some Many
    else None)))))

-- what an answer says of what was given: want of memory says nothing
abbrev pub stated : PathFault → Option PathFault
stated Empty = Some Empty
stated Nul = Some Nul
stated DotDot = Some DotDot
stated Dot = Some Dot
stated LongName = Some LongName
stated Many = Some Many
stated Memory = None

-- the names of a path with one name more, which is to have at most 64
abbrev pub join_fault : PathParts → Option PathFault
join_fault path = if nat_le MAX_NAMES (length path.names) then Some Many else None

-- the path with one name more, without a slash
abbrev pub joined : PathParts → List ℕ → PathParts
joined path name = record { names = path.names ++ name ∷ []; slash = false }

-- the directory in which a path's last name is looked up: the names before it
abbrev pub parent_of_names : List (List ℕ) → Option PathParts
parent_of_names [] = None
parent_of_names (name ∷ names) = Some (record { names = take (length names) (name ∷ names); slash = false })

-- the parent of a path
abbrev pub parent_of : PathParts → Option PathParts
parent_of path = parent_of_names path.names

-- names that begin others, which have at least one more
abbrev pub IsStrictPrefix : List (List ℕ) → List (List ℕ) → Type 0
IsStrictPrefix names longer = (next : List ℕ) × (rest : List (List ℕ)) × (names ++ (next ∷ rest) ≡ longer)

-- What a call that makes a path answers, given why there is none, where that is so, and the path:
-- want of memory is answered only where there is a path.
abbrev pub PathGives : Option PathFault → PathParts → Result PathParts PathFault → Type 0
PathGives fault path (Ok made) = (fault ≡ None) × (made ≡ path)
PathGives fault path (Err answer) = fault ≡ stated answer
