-- A path resolved on a tree name by name, as a system does it, and that `reach` says where this ends.
use Rattle.std.specs.Prelude.{◌≡◌, ◌≢◌, ℕ, ◌⊎◌, Bool, IsTrue, List, [], ◌∷◌, ◌++◌, None, Some}
use Rattle.script_names.specs.Paths.{PathParts}
use Rattle.feature_trees.specs.declared.value.Value.{Value}
use Rattle.feature_trees.specs.declared.value.Value.TheVariants as value
use Rattle.feature_trees.specs.declared.kind.Kind.TheVariants as kind
use Rattle.feature_trees.specs.Tree.{at, kind_of}
use Rattle.utility_calls.specs.Ways.{NoLinkOnWay}
use Rattle.link_walks.specs.declared.walks.Reached.TheVariants.{At}
use Rattle.link_walks.specs.Links.{LinkParts, AreLinks, base_of, target_names}
use Rattle.link_walks.specs.Reaching.{link_at, reach}

-- each of the links stands in the tree
abbrev pub AreStated : List LinkParts → Value → Type 0
AreStated [] tree = Unit {0}
AreStated (link ∷ links) tree = (at tree link.at.names ≡ value.Link link.target) × AreStated links tree

-- from the directory that the names so far lead to, the names behind these lead to an end: name by name, and on at its
-- target where a known link stands (POSIX.1-2017, Base Definitions, 4.13); at the last name only where that is followed
pub data Resolves (links : List LinkParts) (tree : Value) (last : Bool) :
    List (List ℕ) → List (List ℕ) → List (List ℕ) → Type 0 where
  -- no name is left
  ends : {done : List (List ℕ)} → Resolves links tree last done [] done
  -- a name before others, where no link stands
  passes : {done rest end : List (List ℕ)} (f g : List ℕ) → kind_of (at tree (done ++ f ∷ [])) ≢ kind.Link
      → Resolves links tree last (done ++ f ∷ []) (g ∷ rest) end → Resolves links tree last done (f ∷ g ∷ rest) end
  -- the last name, where that is not followed, or no known link stands
  stands : {done : List (List ℕ)} (f : List ℕ) → (IsTrue last → link_at links (done ++ f ∷ []) ≡ None)
      → Resolves links tree last done (f ∷ []) (done ++ f ∷ [])
  -- a known link
  leads : {done rest end : List (List ℕ)} (link : LinkParts) (f : List ℕ)
      → link_at links (done ++ f ∷ []) ≡ Some link → at tree (done ++ f ∷ []) ≡ value.Link link.target
      → (rest ≢ []) ⊎ IsTrue last
      → Resolves links tree last (base_of link.target done) (target_names link.target ++ rest) end
      → Resolves links tree last done (f ∷ rest) end

-- where no strict prefix of the path that is reached is a link, that is where the path leads
abbrev pub ReachResolves : Type 0
ReachResolves =
    (links : List LinkParts) (tree : Value) (last : Bool) (p q : PathParts) → AreLinks links → AreStated links tree
    → reach links last p ≡ At q → NoLinkOnWay tree q.names → Resolves links tree last [] p.names q.names

-- with no known link each path is where it is
abbrev pub NoLinksNoWalk : Type 0
NoLinksNoWalk = (last : Bool) (p : PathParts) → reach [] last p ≡ At p
