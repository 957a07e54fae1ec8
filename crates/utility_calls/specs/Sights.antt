-- What the rows of an act look at on a tree.
use Rattle.std.specs.Prelude.{Bool, true, false, not, ◌&&◌, List, [], ◌∷◌}
use Rattle.feature_trees.specs.declared.value.Value.{Value}
use Rattle.feature_trees.specs.declared.kind.Kind.{Kind}
use Rattle.feature_trees.specs.declared.kind.Kind.TheVariants.{Dir}
use Rattle.feature_trees.specs.declared.shape.Entry.{Entry}
use Rattle.feature_trees.specs.Kinds.{has, of}
use Rattle.feature_trees.specs.Tree.{entries_of, kind_of}
use Rattle.utility_calls.specs.declared.sights.Sight.{Sight}
use Rattle.utility_calls.specs.declared.sights.Where.{Where}
use Rattle.utility_calls.specs.declared.sights.Where.TheVariants.{Anything, Is, Within, Inside, Outside, Empty, Full}
use Rattle.utility_calls.specs.declared.sights.Where.TheVariants.{Into, IntoEmpty, IntoFull}

-- whether there is an entry
abbrev pub is_some : List Entry → Bool
is_some [] = false
is_some (e ∷ es) = true

-- whether a directory has an entry; what is no directory has none
abbrev pub has_entry : Value → Bool
has_entry v = is_some (entries_of v)

-- What is seen at a path, and at a name below it: whether what holds the path's last name is a directory; the kind of
-- what stands at the path, and whether it has an entry; the same of what stands below it.
abbrev pub sight_of : Bool → Value → Value → Sight
sight_of in_dir here inner = record {
  in_dir = in_dir;
  kind = kind_of here;
  filled = has_entry here;
  inner = kind_of inner;
  inner_filled = has_entry inner;
}

-- whether the condition of a row holds of what is seen
abbrev pub holds : Where → Sight → Bool
holds Anything s = true
holds (Is kinds) s = has kinds s.kind
holds Within s = s.in_dir
holds (Inside kinds) s = s.in_dir && has kinds s.kind
holds Outside s = not s.in_dir
holds Empty s = has (of Dir) s.kind && not s.filled
holds Full s = has (of Dir) s.kind && s.filled
holds (Into kinds) s = has (of Dir) s.kind && has kinds s.inner
holds IntoEmpty s = has (of Dir) s.kind && (has (of Dir) s.inner && not s.inner_filled)
holds IntoFull s = has (of Dir) s.kind && (has (of Dir) s.inner && s.inner_filled)

-- the sight of these parts
abbrev pub sight : Bool → Kind → Bool → Kind → Bool → Sight
sight in_dir k some l more = record { in_dir = in_dir; kind = k; filled = some; inner = l; inner_filled = more }
