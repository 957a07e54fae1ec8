-- What holds of the tree that an act leaves.
use Rattle.std.specs.Prelude.{◌≡◌, ◌≢◌, ℕ, true, List, [], All, IsTrue, IfSome}
use Rattle.script_names.specs.Names.{is_name}
use Rattle.script_names.specs.declared.reason.Done.TheVariants as done
use Rattle.feature_trees.specs.declared.value.Value.{Value}
use Rattle.feature_trees.specs.declared.kind.Kind.TheVariants as kind
use Rattle.feature_trees.specs.declared.value.Value.TheVariants.{Absent}
use Rattle.feature_trees.specs.Sound.{sound}
use Rattle.feature_trees.specs.Tree.{kind_of, has_parents, put}
use Rattle.utility_calls.specs.declared.acts.Act.{Act}
use Rattle.utility_calls.specs.declared.sights.Effect.{Effect}
use Rattle.utility_calls.specs.declared.sights.Effect.TheVariants.{Nothing, LinksInside, Moves, MovesInside, Copies}
use Rattle.utility_calls.specs.declared.sights.Effect.TheVariants.{CopiesInside}
use Rattle.utility_calls.specs.Acts.{path_of, place_of, inner_name, with_name, is_question, IsPerformed, row}
use Rattle.utility_calls.specs.Acts.{tree_after}

-- a question has no effect
abbrev pub QuestionsChangeNothing : Type 0
QuestionsChangeNothing = (act : Act) (tree : Value) → is_question act ≡ true → (row act tree).effect ≡ Nothing

-- an act that does not succeed has none
abbrev pub OnlySuccessesChange : Type 0
OnlySuccessesChange = (act : Act) (tree : Value) → (row act tree).answer ≢ done.Ok → (row act tree).effect ≡ Nothing

-- an act leaves a directory a directory
abbrev pub ActsKeepDirs : Type 0
ActsKeepDirs =
    (act : Act) (tree : Value) → IsPerformed act → kind_of tree ≡ kind.Dir → kind_of (tree_after act tree) ≡ kind.Dir

-- each of these is a name
abbrev pub AreNames : List (List ℕ) → Type 0
AreNames names = All (λ f. IsTrue (is_name f)) names

-- an act of names: those of its path and of its place, and the one under which it puts something in a directory
pub record HasNames (act : Act) : Type 0 where
  pub path : AreNames (path_of act).names
  pub place : AreNames (place_of act)
  pub inner : IfSome (inner_name act) (λ f. IsTrue (is_name f))

-- such an act leaves a sound tree sound
abbrev pub ActsKeepSound : Type 0
ActsKeepSound = (act : Act) (tree : Value) → HasNames act → IsTrue (sound tree) → IsTrue (sound (tree_after act tree))

-- the paths of an act that has an effect have names
abbrev pub ChangesHaveNames : Type 0
ChangesHaveNames =
    (act : Act) (tree : Value) → IsPerformed act → (row act tree).effect ≢ Nothing
    → ((path_of act).names ≢ []) × (place_of act ≢ [])

-- the tree without what stands at the act's path
abbrev pub without : Act → Value → Value
without act tree = put tree (path_of act).names Absent

-- Every strict prefix of a path at which an effect puts something, or takes it away, is a directory. What is moved is
-- put into the tree without it, so of its new path this holds of that tree.
abbrev pub IsInDirectory : Effect → Act → Value → Type 0
IsInDirectory Nothing act tree = Unit {0}
IsInDirectory LinksInside act tree = IsTrue (has_parents tree (with_name (path_of act).names (inner_name act)))
IsInDirectory Moves act tree =
    IsTrue (has_parents tree (path_of act).names) × IsTrue (has_parents (without act tree) (place_of act))
IsInDirectory MovesInside act tree =
    IsTrue (has_parents tree (path_of act).names)
    × IsTrue (has_parents (without act tree) (with_name (place_of act) (inner_name act)))
IsInDirectory Copies act tree = IsTrue (has_parents tree (place_of act))
IsInDirectory CopiesInside act tree = IsTrue (has_parents tree (with_name (place_of act) (inner_name act)))
IsInDirectory effect act tree = IsTrue (has_parents tree (path_of act).names)

-- what an act puts or takes away is in a directory
abbrev pub ChangesAreInDirectories : Type 0
ChangesAreInDirectories =
    (act : Act) (tree : Value) → IsPerformed act → IsTrue (sound tree) → IsInDirectory (row act tree).effect act tree
