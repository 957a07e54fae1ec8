-- The text of a tree: one line per entry but the root, by names in byte order, a directory before its entries.
use Rattle.std.specs.Prelude.{ℕ, List, [], ◌∷◌, ◌++◌, codes, take, drop, if◌then◌else◌}
use Rattle.std.specs.Str.{bytes_eq}
use Rattle.feature_trees.specs.declared.shape.Entry.{Entry}
use Rattle.feature_trees.specs.declared.shape.Node.{Node}
use Rattle.feature_trees.specs.declared.shape.Node.TheOpen as Open
use Rattle.feature_trees.specs.declared.shape.Node.TheFolds.{fold-Node, fold-Entry}
use Rattle.feature_trees.specs.declared.value.Value.{Value}
use Rattle.feature_trees.specs.declared.value.Value.TheVariants as V
use Rattle.feature_trees.specs.declared.value.Value.TheVariants.{Absent, Reg, Link, Dir}
use Rattle.feature_trees.specs.declared.kind.Special.{Special}
use Rattle.feature_trees.specs.declared.kind.Special.TheVariants.{Fifo, Socket, Block, Char}
use Rattle.shown_texts.specs.Lines.{lines_text}
use Rattle.shown_texts.specs.Paths.{after_slash}
use Rattle.shown_texts.specs.Show.{show}

-- the path of a name below a path; the root's path is no bytes here
abbrev pub path_below : List ℕ → List ℕ → List ℕ
path_below path name = path ++ after_slash name

-- how the line of a special thing begins: `p` is a pipe, `s` a socket, `b` a block device, `c` a character device
abbrev pub special_mark : Special → List ℕ
special_mark Fifo = codes "p "
special_mark Socket = codes "s "
special_mark Block = codes "b "
special_mark Char = codes "c "

-- the lines of what stands at a path, without their newlines
abbrev pub Lines : Type 0
Lines = List ℕ → List (List ℕ)

-- the lines of entries, each in its turn
abbrev pub in_turn : List Lines → Lines
in_turn [] path = []
in_turn (lines ∷ rest) path = lines path ++ in_turn rest path

-- the line of what stands at a path, and after it those of its entries
abbrev pub node_layer : Open.Node-F Lines Lines → Lines
node_layer Open.Reg path = (codes "f " ++ path) ∷ []
node_layer (Open.Link target) path = (codes "l " ++ path ++ codes " " ++ show target) ∷ []
node_layer (Open.Special s) path = (special_mark s ++ path) ∷ []
node_layer (Open.Dir entries) path = (codes "d " ++ path) ∷ in_turn entries path

-- the lines of an entry, given the path above it
abbrev pub entry_layer : Open.Entry-F Lines Lines → Lines
entry_layer e path = e.node (path_below path e.name)

-- the lines of a node at a path
abbrev pub node_lines : Node → Lines
node_lines = fold-Node Lines Lines node_layer entry_layer

-- the lines of an entry below a path
abbrev pub entry_lines : Entry → Lines
entry_lines = fold-Entry Lines Lines node_layer entry_layer

-- the lines of entries below a path
abbrev pub entries_lines : List Entry → Lines
entries_lines [] path = []
entries_lines (e ∷ es) path = entry_lines e path ++ entries_lines es path

-- the lines of a value at a path; where nothing stands there are none
abbrev pub value_lines : Value → Lines
value_lines Absent path = []
value_lines Reg path = (codes "f " ++ path) ∷ []
value_lines (Link target) path = (codes "l " ++ path ++ codes " " ++ show target) ∷ []
value_lines (V.Special s) path = (special_mark s ++ path) ∷ []
value_lines (Dir es) path = (codes "d " ++ path) ∷ entries_lines es path

-- the lines of a tree
abbrev pub tree_lines : Value → List (List ℕ)
tree_lines Absent = []
tree_lines Reg = []
tree_lines (Link target) = []
tree_lines (V.Special s) = []
tree_lines (Dir es) = entries_lines es []

-- the text of a tree
abbrev pub tree_text : Value → List ℕ
tree_text tree = lines_text (tree_lines tree)

-- a line as the first version of reports has it, where `o` stood for every special thing: a line that begins with `p `
-- begins with `o ` instead
abbrev pub first_version_line : List ℕ → List ℕ
first_version_line line = if bytes_eq (take 2 line) (codes "p ") then codes "o " ++ drop 2 line else line
