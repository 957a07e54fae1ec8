-- What putting back does on a tree, by the tree that was kept: the row that applies, what it answers, and the tree that
-- it leaves. The table is to be read beside docs/FORMATS.md (Rows).
use Rattle.std.specs.Prelude.{◌≡◌, ◌≢◌, ℕ, ◌<◌, ◌≤◌, IsTrue, List, [], ◌∷◌, length}
use Rattle.script_names.specs.declared.reason.Done.TheVariants.{Ok}
use Rattle.feature_trees.specs.declared.value.Value.{Value}
use Rattle.feature_trees.specs.declared.value.Value.TheVariants as value
use Rattle.feature_trees.specs.declared.kind.Kind.{Kind}
use Rattle.feature_trees.specs.declared.kind.Kind.TheVariants.{Absent, Link, Dir}
use Rattle.feature_trees.specs.Kinds.{of, but}
use Rattle.feature_trees.specs.Tree.{at, kind_of, put}
use Rattle.utility_calls.specs.declared.acts.Act.{Act}
use Rattle.utility_calls.specs.declared.acts.Act.TheVariants.{EnsureDir}
use Rattle.utility_calls.specs.declared.backs.Back.{Back}
use Rattle.utility_calls.specs.declared.backs.Back.TheVariants.{Folder, File}
use Rattle.utility_calls.specs.declared.sights.Effect.{Effect}
use Rattle.utility_calls.specs.declared.sights.Effect.TheVariants.{Nothing, MakesDir, KeepsDir, MakesFile, MakesLink}
use Rattle.utility_calls.specs.declared.sights.Effect.TheVariants.{LinksInside, TakesAway, Moves, MovesInside, Copies}
use Rattle.utility_calls.specs.declared.sights.Effect.TheVariants.{CopiesInside}
use Rattle.utility_calls.specs.declared.sights.Row.{Row}
use Rattle.utility_calls.specs.declared.sights.Rule.{Rule}
use Rattle.utility_calls.specs.declared.sights.Sight.{Sight}
use Rattle.utility_calls.specs.declared.sights.Where.TheVariants.{Anything, Is, Inside, Outside, Empty, Full}
use Rattle.utility_calls.specs.Acts.{path_of, by_way}
use Rattle.utility_calls.specs.ActRows.{IsAmong}
use Rattle.utility_calls.specs.Sights.{sight_of}
use Rattle.utility_calls.specs.Table.{leaves, leaves_from, does_from, rule_holds, first_row}
use Rattle.utility_calls.specs.Ways.{link_on_way, in_dir, kind_at, NoLinkOnWay}

-- the names of its path
abbrev pub names_of : Back → List (List ℕ)
names_of (Folder p) = p.names
names_of (File p) = p.names

-- What is put back for an act that unpacked something: its kind by the act as it was listed, its path by the act that
-- was done for it.
abbrev pub back_of : Act → Act → Back
back_of (EnsureDir p) done = Folder (path_of done)
back_of listed done = File (path_of done)

-- A directory is taken away that was not there before, unless it has an entry by now. The kinds of a row are those of
-- what stood there in the kept tree.
abbrev pub folder_rules : List Rule
folder_rules =
    leaves_from 66 (but Absent) Anything Ok
    ∷ leaves_from 67 (of Absent) (Is (but Dir)) Ok
    ∷ leaves_from 68 (of Absent) Full Ok
    ∷ does_from 69 (of Absent) Empty TakesAway
    ∷ []

-- What stood there is put back, unless a directory is there or was there.
abbrev pub file_rules : List Rule
file_rules =
    leaves 66 Outside Ok
    ∷ leaves 67 (Is (of Dir)) Ok
    ∷ does_from 68 (but Dir) (Inside (but Dir)) Moves
    ∷ leaves_from 69 (of Dir) (Inside (but Dir)) Ok
    ∷ []

-- the rows of a back
abbrev pub back_rules : Back → List Rule
back_rules (Folder p) = folder_rules
back_rules (File p) = file_rules

-- the kind of what stood there in the kept tree
abbrev pub kept_kind : Back → Value → Kind
kept_kind b kept = kind_of (at kept (names_of b))

-- what is seen on the tree
abbrev pub back_sight : Back → Value → Sight
back_sight b tree = sight_of (in_dir tree (names_of b)) (at tree (names_of b)) value.Absent

-- the row that applies
abbrev pub back_row : Back → Value → Value → Row
back_row b kept tree =
    by_way (link_on_way 0 tree (names_of b)) (first_row (back_rules b) (kept_kind b kept) (back_sight b tree))

-- the tree that an effect leaves: nothing is there any more, or what stood there in the kept tree
abbrev pub put_back_by : Effect → List (List ℕ) → Value → Value → Value
put_back_by Nothing names kept tree = tree
put_back_by MakesDir names kept tree = tree
put_back_by KeepsDir names kept tree = tree
put_back_by MakesFile names kept tree = tree
put_back_by MakesLink names kept tree = tree
put_back_by LinksInside names kept tree = tree
put_back_by TakesAway names kept tree = put tree names value.Absent
put_back_by Moves names kept tree = put tree names (at kept names)
put_back_by MovesInside names kept tree = tree
put_back_by Copies names kept tree = tree
put_back_by CopiesInside names kept tree = tree

-- the tree that a back leaves
abbrev pub back_after : Back → Value → Value → Value
back_after b kept tree = put_back_by (back_row b kept tree).effect (names_of b) kept tree

-- the condition of a back: its path has a name
abbrev pub IsNamed : Back → Type 0
IsNamed b = names_of b ≢ []

-- the row of this number applies
pub data BackApplies (b : Back) (kept tree : Value) : ℕ → Type 0 where
  -- row k, from 1 to one less than the path's count of names: a link stands at its first k names
  on_way : (k : ℕ) → 1 ≤ k → k < length (names_of b) → kind_at tree (names_of b) k ≡ Link → BackApplies b kept tree k
  -- a row of the table
  own : (r : Rule) → NoLinkOnWay tree (names_of b) → IsAmong r (back_rules b)
      → IsTrue (rule_holds (kept_kind b kept) (back_sight b tree) r) → BackApplies b kept tree r.number
