-- The places of a tree, one after another: names in byte order, a directory before its entries.
use Rattle.std.specs.Prelude.{ℕ, List, [], ◌∷◌, ◌++◌}
use Rattle.script_names.specs.Ascii.{slash}
use Rattle.feature_trees.specs.declared.shape.Entry.{Entry}
use Rattle.feature_trees.specs.declared.shape.Node.{Node}
use Rattle.feature_trees.specs.declared.shape.Node.TheOpen as Open
use Rattle.feature_trees.specs.declared.shape.Node.TheFolds.{fold-Node, fold-Entry}
use Rattle.feature_trees.specs.declared.value.Value.{Value}
use Rattle.feature_trees.specs.declared.value.Value.TheVariants as value
use Rattle.tree_pictures.specs.declared.placed.Placed.{Placed}
use Rattle.tree_pictures.specs.declared.placed.Standing.{Standing}
use Rattle.tree_pictures.specs.declared.placed.Standing.TheVariants.{Reg, Link, Special, Dir}

-- the path of a name below a path: each name behind a slash; the root's path is no bytes
abbrev pub below : List ℕ → List ℕ → List ℕ
below path name = path ++ slash ∷ name

-- what stands at a path, alone
abbrev pub alone : List ℕ → Standing → List Placed
alone path standing = record { path = path; standing = standing } ∷ []

-- the places at and below a path
abbrev pub Places : Type 0
Places = List ℕ → List Placed

-- those of entries, each in its turn
abbrev pub in_turn : List Places → Places
in_turn [] path = []
in_turn (places ∷ rest) path = places path ++ in_turn rest path

-- what stands at a path, and behind it the places of its entries
abbrev pub node_layer : Open.Node-F Places Places → Places
node_layer Open.Reg path = alone path Reg
node_layer (Open.Link target) path = alone path (Link target)
node_layer (Open.Special s) path = alone path (Special s)
node_layer (Open.Dir entries) path = alone path Dir ++ in_turn entries path

-- the places of an entry, given the path above it
abbrev pub entry_layer : Open.Entry-F Places Places → Places
entry_layer e path = e.node (below path e.name)

-- the places of a node at a path
abbrev pub node_places : Node → Places
node_places = fold-Node Places Places node_layer entry_layer

-- the places of an entry below a path
abbrev pub entry_places : Entry → Places
entry_places = fold-Entry Places Places node_layer entry_layer

-- the places of entries below a path
abbrev pub entries_places : List Entry → Places
entries_places [] path = []
entries_places (e ∷ es) path = entry_places e path ++ entries_places es path

-- the places of a value at a path; where nothing stands there are none
abbrev pub value_places : Value → Places
value_places value.Absent path = []
value_places value.Reg path = alone path Reg
value_places (value.Link target) path = alone path (Link target)
value_places (value.Special s) path = alone path (Special s)
value_places (value.Dir es) path = alone path Dir ++ entries_places es path

-- the places of a tree below its root
abbrev pub tree_places : Value → List Placed
tree_places value.Absent = []
tree_places value.Reg = []
tree_places (value.Link target) = []
tree_places (value.Special s) = []
tree_places (value.Dir es) = entries_places es []
