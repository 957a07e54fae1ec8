-- Followed acts meet the conditions of acts.
use Rattle.std.specs.Prelude.{◌≡◌, ◌≢◌, Bool, true, false, List, []}
use Rattle.utility_calls.specs.declared.acts.Act.{Act}
use Rattle.utility_calls.specs.declared.acts.Act.TheVariants.{EnsureDir, PlaceFile, PlaceLink, PlaceConf, Discard}
use Rattle.utility_calls.specs.declared.acts.Act.TheVariants.{DiscardDir}
use Rattle.utility_calls.specs.declared.planned.Planned.{Planned}
use Rattle.utility_calls.specs.Acts.{path_of, IsPerformed}
use Rattle.utility_calls.specs.Performed.{HasPerformedActs}
use Rattle.link_walks.specs.Links.{LinkParts}
use Rattle.link_walks.specs.Following.{follow_act, follow}

-- the acts of a plan still meet their conditions
abbrev pub FollowedPerformed : Type 0
FollowedPerformed =
    (links : List LinkParts) (planned : Planned) → HasPerformedActs planned → HasPerformedActs (follow links planned)

-- whether an act is one by which a package manager makes, places or discards a file of a package
abbrev pub is_of_package : Act → Bool
is_of_package (EnsureDir p) = true
is_of_package (PlaceFile p) = true
is_of_package (PlaceLink p target) = true
is_of_package (PlaceConf p) = true
is_of_package (Discard p) = true
is_of_package (DiscardDir p) = true
is_of_package act = false

-- such an act at a path with a name meets them once it is followed
abbrev pub FollowedFilesArePerformed : Type 0
FollowedFilesArePerformed =
    (links : List LinkParts) (act : Act) → is_of_package act ≡ true → (path_of act).names ≢ []
    → IsPerformed (follow_act links act)
