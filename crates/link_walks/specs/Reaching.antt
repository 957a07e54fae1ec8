-- Where a path leads along known links: the shortest of its beginnings that is a known link's path is replaced by that
-- link's place, and so on, eight times at most (POSIX.1-2017, <limits.h>, {_POSIX_SYMLOOP_MAX}).
use Rattle.std.specs.Prelude.{ℕ, zero, suc, Bool, ◌&&◌, nat_lt, nat_le, List, [], ◌∷◌, ◌++◌, length}
use Rattle.std.specs.Prelude.{Option, Some, None, if◌then◌else◌}
use Rattle.std.specs.List.{find}
use Rattle.script_names.specs.declared.path.TheConstants.{MAX_NAMES}
use Rattle.script_names.specs.Paths.{PathParts}
use Rattle.utility_calls.specs.Pairs.{same_names}
use Rattle.link_walks.specs.Links.{LinkParts}
use Rattle.link_walks.specs.declared.walks.Reached.{Reached}
use Rattle.link_walks.specs.declared.walks.Reached.TheVariants.{At, Blocked}
use Rattle.link_walks.specs.declared.walks.TheConstants.{MOST_LINKS}

-- the first link with this path
abbrev pub link_at : List LinkParts → List (List ℕ) → Option LinkParts
link_at links names = find (λ link. same_names link.at.names names) links

-- a link that a path meets, and the names behind it
pub record Met : Type 0 where
  pub link : LinkParts
  pub behind : List (List ℕ)

-- the link that is met here, where there is one, else the one that is met later
abbrev pub met_here : List (List ℕ) → Option LinkParts → Option Met → Option Met
met_here behind None later = later
met_here behind (Some link) later = Some (record { link = link; behind = behind })

-- the first link that a path meets whose names before are gone along; at its last name only where that is followed
abbrev pub met : List LinkParts → Bool → List (List ℕ) → List (List ℕ) → Option Met
met links last before [] = None
met links last before (f ∷ []) = if last then met_here [] (link_at links (before ++ f ∷ [])) None else None
met links last before (f ∷ g ∷ rest) =
    met_here (g ∷ rest) (link_at links (before ++ f ∷ [])) (met links last (before ++ f ∷ []) (g ∷ rest))

-- the names with the place of a link that is met in place of its path
abbrev pub led : Met → List (List ℕ)
led m = m.link.place.names ++ m.behind

-- the path of these names; a slash at the end stays
abbrev pub led_path : Met → Bool → PathParts
led_path m slash = record { names = led m; slash = slash }

-- whether a path below the root may have these names: 1 to 64
abbrev pub is_length : List (List ℕ) → Bool
is_length names = nat_lt 0 (length names) && nat_le (length names) MAX_NAMES

-- where a path leads that may follow no link more
abbrev pub stays : Option Met → PathParts → Reached
stays None p = At p
stays (Some m) p = Blocked m.link.at

-- where a path leads that may follow one link, and what comes then
abbrev pub goes_on : Option Met → PathParts → (PathParts → Reached) → Reached
goes_on None p next = At p
goes_on (Some m) p next =
    if is_length (led m) then next (led_path m p.slash) else Blocked m.link.at

-- where a path leads that may follow so many links
abbrev pub reach_in : ℕ → List LinkParts → Bool → PathParts → Reached
reach_in zero links last p = stays (met links last [] p.names) p
reach_in (suc n) links last p = goes_on (met links last [] p.names) p (reach_in n links last)

-- where a path leads; a link at its last name is followed only where that is said
abbrev pub reach : List LinkParts → Bool → PathParts → Reached
reach links last p = reach_in MOST_LINKS links last p
