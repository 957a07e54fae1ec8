-- Sizes of what contracts see.
use Rattle.std.specs.Prelude.{◌≡◌, ℕ, ◌+◌, List, [], ◌∷◌, map}
use Rattle.std.proofs.Common.{sym, ap, ◌∙◌}
use Rattle.feature_trees.specs.declared.shape.Entry.{Entry, rolls-Entry'}
use Rattle.feature_trees.specs.declared.shape.Node.{Node}
use Rattle.feature_trees.specs.declared.shape.Node.TheVariants.{Dir, rolls-Dir}
use Rattle.feature_trees.specs.declared.shape.Node.TheOpen as Open
use Rattle.feature_trees.specs.declared.shape.Node.TheFolds.{fold-Node, fold-Entry, fold-roll-Node, fold-roll-Entry}

-- the sum of numbers
abbrev pub total : List ℕ → ℕ
total [] = 0
total (n ∷ ns) = n + total ns

-- of one node, from the weights of its entries
abbrev pub weight_layer : Open.Node-F ℕ ℕ → ℕ
weight_layer Open.Reg = 0
weight_layer (Open.Link b) = 0
weight_layer (Open.Special s) = 0
weight_layer (Open.Dir es) = total es

-- of one entry, from the weight of its node: the entry itself counts one
abbrev pub entry_layer : Open.Entry-F ℕ ℕ → ℕ
entry_layer e = e.node + 1

-- how many entries stand in and below a node
abbrev pub weight : Node → ℕ
weight = fold-Node ℕ ℕ weight_layer entry_layer

-- an entry, and how many stand below it
abbrev pub entry_weight : Entry → ℕ
entry_weight = fold-Entry ℕ ℕ weight_layer entry_layer

-- how many entries stand among these and below them
abbrev pub count_all : List Entry → ℕ
count_all es = total (map entry_weight es)

-- a directory weighs what its entries do
pub weight_Dir : (es : List Entry) → weight (Dir es) ≡ count_all es
weight_Dir es = ap weight (sym (rolls-Dir es)) ∙ fold-roll-Node ℕ ℕ weight_layer entry_layer (Open.Dir es)

-- an entry weighs one more than its node
pub entry_weight_of : (e : Entry) → entry_weight e ≡ weight e.node + 1
entry_weight_of e =
    ap entry_weight (sym (rolls-Entry' (record { name = e.name; node = e.node })))
    ∙ fold-roll-Entry ℕ ℕ weight_layer entry_layer (record { name = e.name; node = e.node })
