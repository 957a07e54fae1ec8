-- An act and a planned call with their paths taken along known links. An act that would change a known link, or could
-- take the directory at its end away, becomes the question whether anything stands at that link, which has no answer.
use Rattle.std.specs.Prelude.{ℕ, Bool, true, false, not, ◌&&◌, ◌||◌, List, [], ◌∷◌, ◌++◌, map, Option, Some, None}
use Rattle.std.specs.Prelude.{if◌then◌else◌}
use Rattle.std.specs.List.{find, list_any}
use Rattle.std.specs.Option.{option_map, option_or}
use Rattle.std.specs.Str.{bytes_eq}
use Rattle.script_names.specs.declared.path.PathFault.{PathFault}
use Rattle.script_names.specs.declared.reason.Reason.TheVariants as reason
use Rattle.script_names.specs.Paths.{PathParts, path_fault, path_of as path_spelled, spelled_names}
use Rattle.utility_calls.specs.declared.acts.Act.{Act}
use Rattle.utility_calls.specs.declared.acts.Act.TheVariants.{Exists, IsReg, IsDir, IsLink, CanRun, IsSpecial}
use Rattle.utility_calls.specs.declared.acts.Act.TheVariants.{MakeDir, EnsureDir, RemoveDir, Remove, Touch, Symlink}
use Rattle.utility_calls.specs.declared.acts.Act.TheVariants.{Attr, Move, Copy, PlaceFile, PlaceLink, PlaceConf}
use Rattle.utility_calls.specs.declared.acts.Act.TheVariants.{Discard, DiscardDir}
use Rattle.utility_calls.specs.declared.planned.Planned.{Planned}
use Rattle.utility_calls.specs.declared.planned.Planned.TheVariants.{Known, Ask, Print, Change, Unspecified}
use Rattle.utility_calls.specs.Acts.{path_of, is_prefix}
use Rattle.utility_calls.specs.Pairs.{same_names, reaches, is_parent, copies_itself}
use Rattle.link_walks.specs.declared.walks.Reached.{Reached}
use Rattle.link_walks.specs.declared.walks.Reached.TheVariants.{At, Blocked}
use Rattle.link_walks.specs.Links.{LinkParts}
use Rattle.link_walks.specs.Reaching.{reach}

-- ---- along the links

-- whether an act follows a link at its path's last name too; of a move or a copy that is said of its first path
abbrev pub follows_last : Act → Bool
follows_last (Exists p) = true
follows_last (IsReg p) = true
follows_last (IsDir p) = true
follows_last (IsSpecial p kind) = true
follows_last (CanRun p runs) = true
follows_last (EnsureDir p) = true
follows_last (Touch p) = true
follows_last (Symlink p target last force) = true
follows_last (Attr p) = true
follows_last act = false

-- the act with another path; of a move or a copy its first one
abbrev pub with_path : Act → PathParts → Act
with_path (Exists p) q = Exists q
with_path (IsReg p) q = IsReg q
with_path (IsDir p) q = IsDir q
with_path (IsLink p) q = IsLink q
with_path (CanRun p runs) q = CanRun q runs
with_path (IsSpecial p kind) q = IsSpecial q kind
with_path (MakeDir p) q = MakeDir q
with_path (EnsureDir p) q = EnsureDir q
with_path (RemoveDir p) q = RemoveDir q
with_path (Remove p force deep) q = Remove q force deep
with_path (Touch p) q = Touch q
with_path (Symlink p target last force) q = Symlink q target last force
with_path (Attr p) q = Attr q
with_path (Move a b) q = Move q b
with_path (Copy a b deep) q = Copy q b deep
with_path (PlaceFile p) q = PlaceFile q
with_path (PlaceLink p target) q = PlaceLink q target
with_path (PlaceConf p) q = PlaceConf q
with_path (Discard p) q = Discard q
with_path (DiscardDir p) q = DiscardDir q

-- the act at a path that is reached; where that is blocked, the question at the link
abbrev pub at_reached : Reached → (PathParts → Act) → Act
at_reached (At p) of = of p
at_reached (Blocked p) of = Exists p

-- the second path of a move or a copy is followed at its last name too
abbrev pub second_along : List LinkParts → Act → Act
second_along links (Move a b) = at_reached (reach links true b) (λ q. Move a q)
second_along links (Copy a b deep) = at_reached (reach links true b) (λ q. Copy a q deep)
second_along links act = act

-- an act with its paths taken along the links
abbrev pub along : List LinkParts → Act → Act
along links act =
    at_reached (reach links (follows_last act) (path_of act)) (λ q. second_along links (with_path act q))

-- ---- what may not be done

-- names that are these, or begin them
abbrev pub begin_at : List (List ℕ) → List (List ℕ) → Bool
begin_at p q = same_names p q || is_prefix p q

-- whether an act would change a link
abbrev pub changes_link : Act → LinkParts → Bool
changes_link (Remove p force deep) link =
    same_names p.names link.at.names || (deep && is_prefix p.names link.at.names)
changes_link (Symlink p target last force) link = force && same_names link.at.names (p.names ++ last ∷ [])
changes_link (Move a b) link = begin_at a.names link.at.names
changes_link (PlaceFile p) link = same_names p.names link.at.names
changes_link (PlaceLink p target) link = same_names p.names link.at.names && not (bytes_eq target link.target)
changes_link (PlaceConf p) link = same_names p.names link.at.names
changes_link (Discard p) link = same_names p.names link.at.names
changes_link act link = false

-- whether an act could take the directory of these names away
abbrev pub takes_away : Act → List (List ℕ) → Bool
takes_away (RemoveDir p) names = same_names p.names names
takes_away (Remove p force deep) names = deep && begin_at p.names names
takes_away (Move a b) names = begin_at a.names names
takes_away (DiscardDir p) names = same_names p.names names
takes_away act names = false

-- whether it could take the end of a link away, where there is one
abbrev pub takes_reached : Act → Reached → Bool
takes_reached act (At p) = takes_away act p.names
takes_reached act (Blocked p) = false

-- whether it could take a link's own end away
abbrev pub takes_end : List LinkParts → Act → LinkParts → Bool
takes_end links act link = takes_reached act (reach links true link.at)

-- the first link that an act would change, or else the first whose end it could take away
abbrev pub endangered : List LinkParts → Act → Option LinkParts
endangered links act = option_or (find (changes_link act) links) (find (takes_end links act) links)

-- the question whether anything stands at a path, where there is one, else the act
abbrev pub asked_at : Option PathParts → Act → Act
asked_at None act = act
asked_at (Some p) act = Exists p

-- the act, unless it endangers a link: then the question at that link
abbrev pub spared : List LinkParts → Act → Act
spared links act = asked_at (option_map (λ link. link.at) (endangered links act)) act

-- an act with its paths taken along the links, which spares the links and their ends
abbrev pub follow_act : List LinkParts → Act → Act
follow_act links act = spared links (along links act)

-- ---- planned calls

-- whether a target leads along the links to this path, or to what stands in it under the target's last name
abbrev pub leads_to : Reached → List (List ℕ) → List ℕ → Bool
leads_to (At p) names last = reaches None p.names names last
leads_to (Blocked p) names last = false

-- so of a target that spells a path, which is read from the root on
abbrev pub target_leads : List LinkParts → Option PathFault → List ℕ → List (List ℕ) → List ℕ → Bool
target_leads links (Some fault) target names last = false
target_leads links None target names last = leads_to (reach links false (path_spelled target)) names last

-- whether a link to this target at a path, or in it under the target's last name, would be put in place of its own
-- target: by the names that the target spells, or along the links
abbrev pub links_itself : List LinkParts → List ℕ → List (List ℕ) → List ℕ → Bool
links_itself links target names last =
    reaches (path_fault target) (spelled_names target) names last
    || target_leads links (path_fault target) target names last

-- whether an act that was taken along the links replaces the target of its own link, moves a path to itself or into the
-- directory that it is in, or copies one so, or with all below it to below itself
abbrev pub is_same : List LinkParts → Act → Bool
is_same links (Symlink p target last force) = force && links_itself links target p.names last
is_same links (Move a b) = same_names a.names b.names || is_parent b.names a.names
is_same links (Copy a b deep) = copies_itself deep a.names b.names
is_same links act = false

-- what is planned, unless it comes to such an act
abbrev pub unless_same : Bool → Planned → Planned
unless_same same planned = if same then Unspecified reason.Same else planned

-- a planned call whose acts are taken along the links; without links it stays
abbrev pub follow : List LinkParts → Planned → Planned
follow [] planned = planned
follow (link ∷ more) (Known ok) = Known ok
follow (link ∷ more) (Ask act negate) =
    let links : List LinkParts = link ∷ more in
    let there : Act = follow_act links act in
    unless_same (is_same links there) (Ask there negate)
follow (link ∷ more) (Print text) = Print text
follow (link ∷ more) (Change lists) =
    let links : List LinkParts = link ∷ more in
    let there : List (List Act) = map (map (follow_act links)) lists in
    unless_same (list_any (list_any (is_same links)) there) (Change there)
follow (link ∷ more) (Unspecified why) = Unspecified why
