-- Feature trees: an entry, the value at a path, and a value put at a path.
use Rattle.std.specs.Prelude.{ℕ, Bool, true, false, ◌&&◌, List, [], ◌∷◌, ◌++◌, Option, Some, None}
use Rattle.std.specs.declared.cmp.Ordering.{Ordering}
use Rattle.std.specs.declared.cmp.Ordering.TheVariants.{Less, Equal, Greater}
use Rattle.std.specs.Ordering.{nat_cmp}
use Rattle.std.specs.Cmp.Lexicographic.{slice_cmp}
use Rattle.feature_trees.specs.declared.shape.Entry.{Entry}
use Rattle.feature_trees.specs.declared.value.Value.{Value}
use Rattle.feature_trees.specs.declared.value.Value.TheVariants.{Absent, Reg, Link, Special, Dir}
use Rattle.feature_trees.specs.declared.kind.Kind.{Kind}
use Rattle.feature_trees.specs.declared.kind.Kind.TheVariants as kind
use Rattle.feature_trees.specs.View.{node_of, value_of}

-- the kind of a value
abbrev pub kind_of : Value → Kind
kind_of Absent = kind.Absent
kind_of Reg = kind.Reg
kind_of (Link b) = kind.Link
kind_of (Special s) = kind.Special s
kind_of (Dir es) = kind.Dir

-- the order of names
abbrev pub name_cmp : List ℕ → List ℕ → Ordering
name_cmp = slice_cmp nat_cmp

-- one of three, by an order
abbrev pub by_order : {A : Type 0} → Ordering → A → A → A → A
by_order Less x y z = x
by_order Equal x y z = y
by_order Greater x y z = z

-- what stands under a name among these entries, whose names rise
abbrev pub find : List Entry → List ℕ → Value
find [] f = Absent
find (e ∷ es) f = by_order (name_cmp f e.name) Absent (value_of e.node) (find es f)

-- entry f of a value
abbrev pub entry : Value → List ℕ → Value
entry Absent f = Absent
entry Reg f = Absent
entry (Link b) f = Absent
entry (Special s) f = Absent
entry (Dir es) f = find es f

-- the value at a path
abbrev pub at : Value → List (List ℕ) → Value
at v [] = v
at v (f ∷ p) = at (entry v f) p

-- nothing in place of Absent
abbrev pub present : Value → Option Value
present Absent = None
present Reg = Some Reg
present (Link b) = Some (Link b)
present (Special s) = Some (Special s)
present (Dir es) = Some (Dir es)

-- whether a value is a directory
abbrev pub is_dir : Value → Bool
is_dir Absent = false
is_dir Reg = false
is_dir (Link b) = false
is_dir (Special s) = false
is_dir (Dir es) = true

-- the entries of a directory; other values have none
abbrev pub entries_of : Value → List Entry
entries_of Absent = []
entries_of Reg = []
entries_of (Link b) = []
entries_of (Special s) = []
entries_of (Dir es) = es

-- one entry, or none where nothing stands there
abbrev pub entry_if_present : List ℕ → Value → List Entry
entry_if_present f Absent = []
entry_if_present f Reg = record { name = f; node = node_of Reg } ∷ []
entry_if_present f (Link b) = record { name = f; node = node_of (Link b) } ∷ []
entry_if_present f (Special s) = record { name = f; node = node_of (Special s) } ∷ []
entry_if_present f (Dir es) = record { name = f; node = node_of (Dir es) } ∷ []

-- the entries with this value under a name, and the others as before
abbrev pub update : List Entry → List ℕ → Value → List Entry
update [] f w = entry_if_present f w
update (e ∷ es) f w =
    by_order (name_cmp f e.name) (entry_if_present f w ++ (e ∷ es)) (entry_if_present f w ++ es) (e ∷ update es f w)

-- whether every strict prefix of a path is a directory
abbrev pub has_parents : Value → List (List ℕ) → Bool
has_parents v [] = true
has_parents v (f ∷ p) = is_dir v && has_parents (entry v f) p

-- the value with another at a path
abbrev pub put : Value → List (List ℕ) → Value → Value
put v [] w = w
put v (f ∷ p) w = Dir (update (entries_of v) f (put (entry v f) p w))
