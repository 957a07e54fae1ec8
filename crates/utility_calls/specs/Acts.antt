-- What an act does on a tree: the row of the table that applies, what it answers, and the tree that it leaves.
use Rattle.std.specs.Prelude.{◌≡◌, ◌≢◌, ℕ, Bool, true, false, ◌||◌, ◌&&◌, ◌-◌, List, [], ◌∷◌, ◌++◌, length, slice_get}
use Rattle.std.specs.Prelude.{Option, Some, None, if◌then◌else◌}
use Rattle.std.specs.Str.{bytes_eq}
use Rattle.script_names.specs.declared.reason.Reason.TheVariants as reason
use Rattle.script_names.specs.declared.reason.Done.TheVariants as done
use Rattle.script_names.specs.Paths.{PathParts}
use Rattle.feature_trees.specs.declared.value.Value.{Value}
use Rattle.feature_trees.specs.declared.value.Value.TheVariants as value
use Rattle.feature_trees.specs.declared.kind.Kind.{Kind}
use Rattle.feature_trees.specs.declared.kind.Kind.TheVariants as kind
use Rattle.feature_trees.specs.Kinds.{has, of, but}
use Rattle.feature_trees.specs.Tree.{entry, at, entries_of, kind_of, put}
use Rattle.utility_calls.specs.declared.acts.Act.{Act}
use Rattle.utility_calls.specs.declared.acts.Act.TheVariants.{Exists, IsReg, IsDir, IsLink, CanRun, IsSpecial}
use Rattle.utility_calls.specs.declared.acts.Act.TheVariants.{MakeDir, EnsureDir, RemoveDir, Remove, Touch, Symlink}
use Rattle.utility_calls.specs.declared.acts.Act.TheVariants.{Move, Attr, Copy, PlaceFile, PlaceLink, PlaceConf}
use Rattle.utility_calls.specs.declared.acts.Act.TheVariants.{Discard, DiscardDir}
use Rattle.utility_calls.specs.declared.sights.Sight.{Sight}
use Rattle.utility_calls.specs.declared.sights.Effect.{Effect}
use Rattle.utility_calls.specs.declared.sights.Effect.TheVariants.{Nothing, MakesDir, KeepsDir, MakesFile, MakesLink}
use Rattle.utility_calls.specs.declared.sights.Effect.TheVariants.{LinksInside, TakesAway, Moves, MovesInside, Copies}
use Rattle.utility_calls.specs.declared.sights.Effect.TheVariants.{CopiesInside}
use Rattle.utility_calls.specs.declared.sights.Row.{Row}
use Rattle.utility_calls.specs.Ways.{link_on_way, in_dir}
use Rattle.utility_calls.specs.Sights.{sight_of}
use Rattle.utility_calls.specs.Table.{rules, first_row, stop}

-- the path of an act; of a move or a copy that of what is moved or copied
abbrev pub path_of : Act → PathParts
path_of (Exists p) = p
path_of (IsReg p) = p
path_of (IsDir p) = p
path_of (IsLink p) = p
path_of (CanRun p runs) = p
path_of (IsSpecial p kind) = p
path_of (MakeDir p) = p
path_of (EnsureDir p) = p
path_of (RemoveDir p) = p
path_of (Remove p force deep) = p
path_of (Touch p) = p
path_of (Symlink p target last force) = p
path_of (Move a b) = a
path_of (Attr p) = p
path_of (Copy a b deep) = a
path_of (PlaceFile p) = p
path_of (PlaceLink p target) = p
path_of (PlaceConf p) = p
path_of (Discard p) = p
path_of (DiscardDir p) = p

-- the names of the place that an act looks at: of a move or a copy those of its second path
abbrev pub place_of : Act → List (List ℕ)
place_of (Move a b) = b.names
place_of (Copy a b deep) = b.names
place_of act = (path_of act).names

-- the last of names, where there is one
abbrev pub last_name : List (List ℕ) → Option (List ℕ)
last_name names = slice_get names (length names - 1)

-- the name under which a link, or what is moved or copied, is put in a directory, for the acts that have one
abbrev pub inner_name : Act → Option (List ℕ)
inner_name (Symlink p target last force) = Some last
inner_name (Move a b) = last_name a.names
inner_name (Copy a b deep) = last_name a.names
inner_name act = None

-- the target of a link
abbrev pub target_of : Act → List ℕ
target_of (Symlink p target last force) = target
target_of (PlaceLink p target) = target
target_of act = []

-- names with one more behind them, where there is one
abbrev pub with_name : List (List ℕ) → Option (List ℕ) → List (List ℕ)
with_name names None = names
with_name names (Some f) = names ++ f ∷ []

-- what stands under such a name in a value
abbrev pub inner_at : Value → Option (List ℕ) → Value
inner_at v None = value.Absent
inner_at v (Some f) = entry v f

-- what stands under that name at the place that the act looks at
abbrev pub inner_of : Act → Value → Value
inner_of act tree = inner_at (at tree (place_of act)) (inner_name act)

-- the path of what is moved, where something is
abbrev pub moved : Act → Option PathParts
moved (Move a b) = Some a
moved act = None

-- the path of what is moved or copied, where something is
abbrev pub source : Act → Option PathParts
source (Move a b) = Some a
source (Copy a b deep) = Some a
source act = None

-- the kind of what stands at a path, where there is one
abbrev pub kind_at_path : Option PathParts → Value → Kind
kind_at_path None tree = kind.Absent
kind_at_path (Some p) tree = kind_of (at tree p.names)

-- the kind of what is moved or copied
abbrev pub source_of : Act → Value → Kind
source_of act tree = kind_at_path (source act) tree

-- whether names begin others, which have at least one more
abbrev pub is_prefix : List (List ℕ) → List (List ℕ) → Bool
is_prefix p [] = false
is_prefix [] (g ∷ q) = true
is_prefix (f ∷ p) (g ∷ q) = bytes_eq f g && is_prefix p q

-- whether a path begins names
abbrev pub begins : Option PathParts → List (List ℕ) → Bool
begins None names = false
begins (Some p) names = is_prefix p.names names

-- whether a move's second path is below its first
abbrev pub is_below : Act → Bool
is_below act = begins (moved act) (place_of act)

-- whether something is there
abbrev pub is_there : Kind → Bool
is_there k = has (but kind.Absent) k

-- whether what is of this kind is moved or copied: anything that is there is moved; a regular file is copied, and with
-- `deep` a directory
abbrev pub takes : Act → Kind → Bool
takes (Copy a b deep) k = has (of kind.Reg) k || (deep && has (of kind.Dir) k)
takes act k = is_there k

-- whether the way of the act's second path is looked at: where something is moved or copied, or that path is a move's
-- and below the first
abbrev pub looks_at_way : Act → Value → Bool
looks_at_way act tree = is_below act || takes act (source_of act tree)

-- the link on the way of the act's second path, where that is looked at; its row is 128 and the count of names
abbrev pub second_link : Act → Value → Option ℕ
second_link act tree = if looks_at_way act tree then link_on_way 128 tree (place_of act) else None

-- the row of a link on the way
abbrev pub link_row : ℕ → Row
link_row n = record { number = n; answer = stop; effect = Nothing }

-- that row, else the later one
abbrev pub by_way : Option ℕ → Row → Row
by_way None row = row
by_way (Some n) row = link_row n

-- the row where a slash stands behind a file, a link or a special file
abbrev pub slash_row : Row
slash_row = record { number = 64; answer = done.Stopped reason.Slash; effect = Nothing }

-- that row, else the later one, by whether the path ends in a slash, and by what stands there
abbrev pub by_slash : Bool → Kind → Row → Row
by_slash false k row = row
by_slash true kind.Absent row = row
by_slash true kind.Reg row = slash_row
by_slash true kind.Link row = slash_row
by_slash true (kind.Special s) row = slash_row
by_slash true kind.Dir row = row

-- what an act sees on a tree
abbrev pub sight_on : Act → Value → Sight
sight_on act tree = sight_of (in_dir tree (place_of act)) (at tree (place_of act)) (inner_of act tree)

-- the row of an act's own
abbrev pub own_row : Act → Value → Row
own_row act tree = first_row (rules (is_below act) act) (source_of act tree) (sight_on act tree)

-- the row that applies to an act on a tree
abbrev pub row : Act → Value → Row
row act tree =
    by_way (link_on_way 0 tree (path_of act).names)
    (by_slash (path_of act).slash (kind_of (at tree (path_of act).names))
    (by_way (second_link act tree) (own_row act tree)))

-- the tree that an effect of an act leaves
abbrev pub effect_on : Effect → Act → Value → Value
effect_on Nothing act tree = tree
effect_on MakesDir act tree = put tree (path_of act).names (value.Dir [])
effect_on KeepsDir act tree = put tree (path_of act).names (value.Dir (entries_of (at tree (path_of act).names)))
effect_on MakesFile act tree = put tree (path_of act).names value.Reg
effect_on MakesLink act tree = put tree (path_of act).names (value.Link (target_of act))
effect_on LinksInside act tree = put tree (with_name (path_of act).names (inner_name act)) (value.Link (target_of act))
effect_on TakesAway act tree = put tree (path_of act).names value.Absent
effect_on Moves act tree = put (put tree (path_of act).names value.Absent) (place_of act) (at tree (path_of act).names)
effect_on MovesInside act tree =
    put (put tree (path_of act).names value.Absent) (with_name (place_of act) (inner_name act))
    (at tree (path_of act).names)
effect_on Copies act tree = put tree (place_of act) (at tree (path_of act).names)
effect_on CopiesInside act tree = put tree (with_name (place_of act) (inner_name act)) (at tree (path_of act).names)

-- the tree that an act leaves
abbrev pub tree_after : Act → Value → Value
tree_after act tree = effect_on (row act tree).effect act tree

-- whether an act changes nothing of a tree: a question, or what sets a mode or an owner
abbrev pub is_question : Act → Bool
is_question (Exists p) = true
is_question (IsReg p) = true
is_question (IsDir p) = true
is_question (IsLink p) = true
is_question (CanRun p runs) = true
is_question (IsSpecial p kind) = true
is_question (Attr p) = true
is_question act = false

-- the names of what is moved, where something is, differ from these
abbrev pub MovesFrom : Option PathParts → List (List ℕ) → Type 0
MovesFrom None names = Unit {0}
MovesFrom (Some a) names = a.names ≢ names

-- the names of a move's paths differ
abbrev pub IsMove : Act → Type 0
IsMove act = MovesFrom (moved act) (place_of act)

-- The conditions of an act: the path of one that changes the tree has a name, and so has the second path of a move or
-- a copy; the names of a move's paths differ.
abbrev pub IsPerformed : Act → Type 0
IsPerformed act = (is_question act ≡ false → ((path_of act).names ≢ []) × (place_of act ≢ [])) × IsMove act
