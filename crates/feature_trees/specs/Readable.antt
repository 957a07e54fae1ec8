-- How many names the paths of a tree have, whether its names and targets are bytes, and whether it has pipes alone of
-- the special things.
use Rattle.std.specs.Prelude.{ℕ, ◌+◌, Bool, true, false, ◌&&◌, List, [], ◌∷◌, map, max}
use Rattle.std.specs.List.{list_all}
use Rattle.shown_texts.specs.Show.{are_bytes}
use Rattle.feature_trees.specs.declared.shape.Entry.{Entry}
use Rattle.feature_trees.specs.declared.shape.Node.{Node}
use Rattle.feature_trees.specs.declared.shape.Node.TheOpen as Open
use Rattle.feature_trees.specs.declared.shape.Node.TheFolds.{fold-Node}
use Rattle.feature_trees.specs.declared.kind.Special as special
use Rattle.feature_trees.specs.declared.kind.Special.TheVariants.{Fifo, Socket, Block, Char}
use Rattle.feature_trees.specs.declared.value.Value.{Value}
use Rattle.feature_trees.specs.declared.value.Value.TheVariants.{Absent, Reg, Link, Special, Dir}

-- the greatest of numbers, or 0
abbrev pub greatest : List ℕ → ℕ
greatest [] = 0
greatest (n ∷ ns) = max n (greatest ns)

-- of one node, from the depths of its entries
abbrev pub depth_layer : Open.Node-F ℕ ℕ → ℕ
depth_layer Open.Reg = 0
depth_layer (Open.Link target) = 0
depth_layer (Open.Special s) = 0
depth_layer (Open.Dir depths) = greatest depths

-- of one entry, from the depth of its node: the entry's own name counts one
abbrev pub entry_depth_layer : Open.Entry-F ℕ ℕ → ℕ
entry_depth_layer e = e.node + 1

-- how many names the longest path has that begins in a node
abbrev pub node_depth : Node → ℕ
node_depth = fold-Node ℕ ℕ depth_layer entry_depth_layer

-- how many names the longest path has that begins with one of these entries
abbrev pub entries_depth : List Entry → ℕ
entries_depth es = greatest (map (λ (e : Entry). node_depth e.node + 1) es)

-- how many names the longest path of a value has
abbrev pub depth : Value → ℕ
depth Absent = 0
depth Reg = 0
depth (Link target) = 0
depth (Special s) = 0
depth (Dir es) = entries_depth es

-- of one node, from whether its entries are of bytes
abbrev pub bytes_layer : Open.Node-F Bool Bool → Bool
bytes_layer Open.Reg = true
bytes_layer (Open.Link target) = are_bytes target
bytes_layer (Open.Special s) = true
bytes_layer (Open.Dir entries) = list_all (λ b. b) entries

-- of one entry
abbrev pub entry_bytes_layer : Open.Entry-F Bool Bool → Bool
entry_bytes_layer e = are_bytes e.name && e.node

-- whether the names and targets in a node are bytes
abbrev pub node_bytes : Node → Bool
node_bytes = fold-Node Bool Bool bytes_layer entry_bytes_layer

-- whether those of these entries are
abbrev pub entries_bytes : List Entry → Bool
entries_bytes es = list_all (λ (e : Entry). are_bytes e.name && node_bytes e.node) es

-- whether the names and targets of a value are bytes
abbrev pub of_bytes : Value → Bool
of_bytes Absent = true
of_bytes Reg = true
of_bytes (Link target) = are_bytes target
of_bytes (Special s) = true
of_bytes (Dir es) = entries_bytes es

-- whether a special thing is a pipe
abbrev pub is_pipe : special.Special → Bool
is_pipe Fifo = true
is_pipe Socket = false
is_pipe Block = false
is_pipe Char = false

-- of one node, from whether its entries have pipes alone
abbrev pub pipes_layer : Open.Node-F Bool Bool → Bool
pipes_layer Open.Reg = true
pipes_layer (Open.Link target) = true
pipes_layer (Open.Special s) = is_pipe s
pipes_layer (Open.Dir entries) = list_all (λ b. b) entries

-- of one entry
abbrev pub entry_pipes_layer : Open.Entry-F Bool Bool → Bool
entry_pipes_layer e = e.node

-- whether a node has pipes alone of the special things
abbrev pub node_pipes : Node → Bool
node_pipes = fold-Node Bool Bool pipes_layer entry_pipes_layer

-- whether these entries have
abbrev pub entries_pipes : List Entry → Bool
entries_pipes es = list_all (λ (e : Entry). node_pipes e.node) es

-- whether a value has pipes alone of the special things
abbrev pub only_pipes : Value → Bool
only_pipes Absent = true
only_pipes Reg = true
only_pipes (Link target) = true
only_pipes (Special s) = is_pipe s
only_pipes (Dir es) = entries_pipes es
