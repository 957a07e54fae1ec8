-- What holds of backs and of walks.
use Rattle.std.specs.Prelude.{◌≡◌, ℕ, List, [], ◌++◌, map, IsTrue}
use Rattle.script_names.specs.declared.mark.Mark.{Mark}
use Rattle.feature_trees.specs.declared.value.Value.{Value}
use Rattle.feature_trees.specs.declared.kind.Kind.TheVariants.{Dir}
use Rattle.feature_trees.specs.Sound.{sound}
use Rattle.feature_trees.specs.Tree.{kind_of, has_parents}
use Rattle.utility_calls.specs.declared.backs.Back.{Back}
use Rattle.utility_calls.specs.declared.deeds.Deed.{Deed}
use Rattle.utility_calls.specs.declared.deeds.Deed.TheVariants.{Does}
use Rattle.utility_calls.specs.declared.sights.Effect.{Effect}
use Rattle.utility_calls.specs.declared.sights.Effect.TheVariants.{TakesAway, Moves}
use Rattle.utility_calls.specs.ActChanges.{AreNames}
use Rattle.utility_calls.specs.Backs.{names_of, back_row, back_after, BackApplies, IsNamed}
use Rattle.utility_calls.specs.Decisions.{Decision, Played, play}
use Rattle.utility_calls.specs.Walks.{World, world, Walk, Walked, walk, before, then_walk, walk_of}

-- exactly one row applies to a back, and it is the back's row
pub record OneRow (b : Back) (kept tree : Value) : Type 0 where
  pub applies : BackApplies b kept tree (back_row b kept tree).number
  pub alone : (n : ℕ) → BackApplies b kept tree n → n ≡ (back_row b kept tree).number

-- exactly one row applies to each back that has a path, on each tree that is a directory
abbrev pub OneBackRow : Type 0
OneBackRow = (b : Back) (kept tree : Value) → IsNamed b → kind_of tree ≡ Dir → OneRow b kept tree

-- a directory stays one
abbrev pub BacksKeepDirs : Type 0
BacksKeepDirs =
    (b : Back) (kept tree : Value) → IsNamed b → kind_of tree ≡ Dir → kind_of (back_after b kept tree) ≡ Dir

-- a sound tree stays sound
abbrev pub BacksKeepSound : Type 0
BacksKeepSound =
    (b : Back) (kept tree : Value) → AreNames (names_of b) → IsTrue (sound kept) → IsTrue (sound tree)
    → IsTrue (sound (back_after b kept tree))

-- every strict prefix of a path at which an effect of a back puts something, or takes it away, is a directory
abbrev pub IsBackInDirectory : Effect → List (List ℕ) → Value → Type 0
IsBackInDirectory TakesAway names tree = IsTrue (has_parents tree names)
IsBackInDirectory Moves names tree = IsTrue (has_parents tree names)
IsBackInDirectory effect names tree = Unit {0}

-- what a back puts or takes away is in a directory
abbrev pub BacksAreInDirectories : Type 0
BacksAreInDirectories =
    (b : Back) (kept tree : Value) → IsNamed b → IsBackInDirectory (back_row b kept tree).effect (names_of b) tree

-- the trace and the deeds that a walk is played behind change nothing of it
abbrev pub WalksPlayBehind : Type 0 → Type 0
WalksPlayBehind A =
    (d : Walk A) (w : World) (trace : List Mark) (deeds : List Deed)
    → walk d w trace deeds ≡ before trace deeds (walk d w [] [])

-- two walks are played one behind the other
abbrev pub WalksFollow : Type 0 → Type 0 → Type 0
WalksFollow A B =
    (d : Walk A) (next : A → Walk B) (w : World) (trace : List Mark) (deeds : List Deed)
    → let p : Walked A = walk d w trace deeds in
    walk (then_walk d next) w trace deeds ≡ walk (next p.value) p.world p.trace p.deeds

-- what is played of a decision, walked with the kept tree as it was
abbrev pub walked_as : {A : Type 0} → Value → List Deed → Played A → Walked A
walked_as kept deeds p = record {
  value = p.value;
  world = world p.tree kept;
  trace = p.trace;
  deeds = deeds ++ map Does p.acts;
}

-- a decision is played as its walk is, which leaves the kept tree
abbrev pub DecisionsAreWalks : Type 0 → Type 0
DecisionsAreWalks A =
    (d : Decision A) (w : World) (trace : List Mark) (deeds : List Deed)
    → walk (walk_of d) w trace deeds ≡ walked_as w.kept deeds (play d w.tree trace [])
