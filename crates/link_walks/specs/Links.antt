-- Known links: symbolic links of which it is stated that they lead to a directory. The place of one is the path that its
-- target names (POSIX.1-2017, Base Definitions, 4.13 Pathname Resolution).
use Rattle.std.specs.Prelude.{◌≡◌, ◌≢◌, ℕ, Bool, false, ◌&&◌, ◌==◌, ◌-◌, nat_lt, nat_le, List, [], ◌∷◌, ◌++◌, length}
use Rattle.std.specs.Prelude.{take, drop, IsTrue, Option, Some, None, if◌then◌else◌}
use Rattle.std.specs.List.{list_all}
use Rattle.std.specs.Option.{option_map}
use Rattle.script_names.specs.Ascii.{slash}
use Rattle.script_names.specs.Names.{is_name}
use Rattle.script_names.specs.Paths.{PathParts}
use Rattle.script_names.specs.declared.path.TheConstants.{MAX_NAMES}
use Rattle.shown_texts.specs.Parts.{parts}

-- where a link stands, its target, and the path that the target names
pub record LinkParts : Type 0 where
  pub at : PathParts
  pub target : List ℕ
  pub place : PathParts

-- whether a target begins at the root
abbrev pub is_rooted : List ℕ → Bool
is_rooted [] = false
is_rooted (b ∷ bs) = b == slash

-- a target without the slash that it begins with
abbrev pub behind_root : List ℕ → List ℕ
behind_root target = if is_rooted target then drop 1 target else target

-- what stands between the slashes of a target
abbrev pub target_names : List ℕ → List (List ℕ)
target_names target = parts slash (behind_root target)

-- one or more names joined by single slashes, perhaps with one slash first, and with none at the end
abbrev pub is_target : List ℕ → Bool
is_target target = list_all is_name (target_names target)

-- the names of the directory that holds what these name
abbrev pub above : List (List ℕ) → List (List ℕ)
above names = take (length names - 1) names

-- where a walk goes on from that meets a link to this target in a directory
abbrev pub base_of : List ℕ → List (List ℕ) → List (List ℕ)
base_of target directory = if is_rooted target then [] else directory

-- the names to which a link at these names with this target leads
abbrev pub place_names : List (List ℕ) → List ℕ → List (List ℕ)
place_names names target = base_of target (above names) ++ target_names target

-- the place of a link at these names with this target
abbrev pub place_of : List (List ℕ) → List ℕ → PathParts
place_of names target = record { names = place_names names target; slash = false }

-- these, where each is a name
abbrev pub if_names : List (List ℕ) → Option (List (List ℕ))
if_names parts = if list_all is_name parts then Some parts else None

-- whether a link at these names with this target can be known: it has a name, its target is of the form, and its place
-- is a path
abbrev pub can_be_known : List (List ℕ) → List ℕ → Bool
can_be_known names target =
    nat_lt 0 (length names) && (is_target target && nat_le (length (place_names names target)) MAX_NAMES)

-- the place of a link, where it can be known
abbrev pub known_place : List (List ℕ) → List ℕ → Option PathParts
known_place names target = if can_be_known names target then Some (place_of names target) else None

-- the known link at this path with this target, where it can be known
abbrev pub known_link : PathParts → List ℕ → Option LinkParts
known_link at target =
    option_map (λ place. record { at = at; target = target; place = place }) (known_place at.names target)

-- what the type of known links keeps
pub record IsKnownLink (link : LinkParts) : Type 0 where
  pub named : link.at.names ≢ []
  pub target : IsTrue (is_target link.target)
  pub place : link.place ≡ place_of link.at.names link.target

-- each of them is one
abbrev pub AreLinks : List LinkParts → Type 0
AreLinks [] = Unit {0}
AreLinks (link ∷ links) = IsKnownLink link × AreLinks links
