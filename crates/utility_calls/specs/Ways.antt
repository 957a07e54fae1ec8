-- Where the names of a path lead on a tree: the first link on the way, and what holds the last name.
use Rattle.std.specs.Prelude.{◌≡◌, ◌≢◌, ℕ, suc, ◌<◌, Bool, false, List, [], ◌∷◌, Option, Some, None, length, take}
use Rattle.feature_trees.specs.declared.value.Value.{Value}
use Rattle.feature_trees.specs.declared.kind.Kind.{Kind}
use Rattle.feature_trees.specs.declared.kind.Kind.TheVariants.{Absent, Reg, Link, Special, Dir}
use Rattle.feature_trees.specs.Tree.{entry, at, kind_of, is_dir, has_parents}

-- this count where a link stands, else what comes later on the way
abbrev pub at_link : Kind → ℕ → Option ℕ → Option ℕ
at_link Absent count later = later
at_link Reg count later = later
at_link Link count later = Some count
at_link (Special s) count later = later
at_link Dir count later = later

-- how many names the first strict prefix of a path has at which a link stands, where there is one; `count` names lead
-- to this value, and the path goes on from it. That a link is not followed is this project's own
abbrev pub link_on_way : ℕ → Value → List (List ℕ) → Option ℕ
link_on_way count v [] = None
link_on_way count v (f ∷ []) = None
link_on_way count v (f ∷ g ∷ rest) =
    at_link (kind_of (entry v f)) (suc count) (link_on_way (suc count) (entry v f) (g ∷ rest))

-- whether what holds the last name of a path is a directory: what stands at all names but the last; a path without
-- names has nothing above it
abbrev pub in_dir : Value → List (List ℕ) → Bool
in_dir v [] = false
in_dir v (f ∷ []) = is_dir v
in_dir v (f ∷ g ∷ rest) = in_dir (entry v f) (g ∷ rest)

-- the kind of what stands at the first k names of a path
abbrev pub kind_at : Value → List (List ℕ) → ℕ → Kind
kind_at tree names k = kind_of (at tree (take k names))

-- no strict prefix of the path is a link
abbrev pub NoLinkOnWay : Value → List (List ℕ) → Type 0
NoLinkOnWay tree names = (k : ℕ) → k < length names → kind_at tree names k ≢ Link

-- a path of at least one name is in a directory exactly where every strict prefix of it is a directory
abbrev pub ParentsAreDirs : Type 0
ParentsAreDirs = (v : Value) (f : List ℕ) (p : List (List ℕ)) → in_dir v (f ∷ p) ≡ has_parents v (f ∷ p)
