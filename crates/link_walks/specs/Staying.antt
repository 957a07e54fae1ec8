-- What followed acts leave: known links, and the directories at their ends, stay.
use Rattle.std.specs.Prelude.{◌≡◌, true, List, [], ◌∷◌}
use Rattle.feature_trees.specs.declared.value.Value.{Value}
use Rattle.feature_trees.specs.declared.kind.Kind.TheVariants as kind
use Rattle.feature_trees.specs.Sound.{IsTree}
use Rattle.feature_trees.specs.Tree.{at, kind_of}
use Rattle.utility_calls.specs.declared.acts.Act.{Act}
use Rattle.utility_calls.specs.declared.planned.Planned.{Planned}
use Rattle.utility_calls.specs.Acts.{IsPerformed, tree_after}
use Rattle.utility_calls.specs.ActChanges.{HasNames}
use Rattle.link_walks.specs.declared.walks.Reached.{Reached}
use Rattle.link_walks.specs.declared.walks.Reached.TheVariants.{At, Blocked}
use Rattle.link_walks.specs.Links.{LinkParts}
use Rattle.link_walks.specs.Reaching.{reach}
use Rattle.link_walks.specs.Resolving.{AreStated}
use Rattle.link_walks.specs.Following.{follow_act, follow}

-- a directory stands where a path leads; a blocked one leads nowhere
abbrev pub IsDirAt : Value → Reached → Type 0
IsDirAt tree (At p) = kind_of (at tree p.names) ≡ kind.Dir
IsDirAt tree (Blocked p) = ⊥

-- each of these links leads to a directory, along all of them
abbrev pub LeadToDirs : List LinkParts → List LinkParts → Value → Type 0
LeadToDirs all [] tree = Unit {0}
LeadToDirs all (link ∷ links) tree = IsDirAt tree (reach all true link.at) × LeadToDirs all links tree

-- the links stand in the tree, and lead to directories there
pub record AreKnown (links : List LinkParts) (tree : Value) : Type 0 where
  pub stated : AreStated links tree
  pub lead : LeadToDirs links links tree

-- a followed act leaves them so
abbrev pub LinksStay : Type 0
LinksStay =
    (links : List LinkParts) (act : Act) (tree : Value) → IsPerformed (follow_act links act)
    → HasNames (follow_act links act) → IsTree tree → AreKnown links tree
    → AreKnown links (tree_after (follow_act links act) tree)

-- without known links a plan stays
abbrev pub NoLinksNoChange : Type 0
NoLinksNoChange = (planned : Planned) → follow [] planned ≡ planned
