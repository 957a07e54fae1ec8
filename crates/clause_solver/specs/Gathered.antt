-- A place whose entries are gathered first, and what it is with them.
use Rattle.std.specs.Prelude.{◌≡◌, ℕ, List, [], ◌∷◌, ◌++◌, map, Contains}
use Rattle.feature_trees.specs.declared.shape.Entry.{Entry}
use Rattle.feature_trees.specs.declared.value.Value.{Value}
use Rattle.feature_trees.specs.declared.value.Value.TheVariants as value
use Rattle.feature_trees.specs.Tree.{update}
use Rattle.clause_solver.specs.declared.growing.Growing.{Growing}
use Rattle.clause_solver.specs.declared.growing.NamedChild.{NamedChild}

-- a name and the value under it
abbrev pub Pair : Type 0
Pair = List ℕ × Value

-- a value, and the entries that are to be put into it
abbrev pub Gathered : Type 0
Gathered = Value × List Pair

-- the entries as pairs
abbrev pub pairs : List NamedChild → List Pair
pairs children = map (λ child. (child.name.now, child.value)) children

-- the value and the pairs that are held
abbrev pub gathered : Growing → Gathered
gathered growing = (growing.base, pairs growing.children.items)

-- one more pair
abbrev pub with_pair : Gathered → List ℕ → Value → Gathered
with_pair place f v = (place.0, place.1 ++ (f, v) ∷ [])

-- the entries with each of the pairs put among them, one after another
abbrev pub all_set : List Entry → List Pair → List Entry
all_set es [] = es
all_set es (p ∷ ps) = all_set (update es p.0 p.1) ps

-- a value with the pairs as entries; nothing but a directory has entries
abbrev pub with_all : Value → List Pair → Value
with_all value.Absent ps = value.Absent
with_all value.Reg ps = value.Reg
with_all (value.Link b) ps = value.Link b
with_all (value.Special s) ps = value.Special s
with_all (value.Dir es) ps = value.Dir (all_set es ps)

-- the value with its entries
abbrev pub finished : Gathered → Value
finished place = with_all place.0 place.1

-- no name has two values
abbrev pub AreOneEach : List Pair → Type 0
AreOneEach ps = (p q : Pair) → Contains ps p → Contains ps q → p.0 ≡ q.0 → p.1 ≡ q.1
