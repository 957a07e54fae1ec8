-- How contracts see the entries of a directory.
use Rattle.std.specs.Prelude.{◌≡◌, List, [], ◌∷◌}
use Rattle.std.proofs.Common.{ap}
use Rattle.feature_trees.specs.declared.shape.Node.TheOpen as Open
use Rattle.feature_trees.specs.declared.shape.Node.TheViews.{out-Node}
use Rattle.feature_trees.specs.declared.shape.Node.TheVariants.{outs-Reg, outs-Link, outs-Special, outs-Dir}
use Rattle.feature_trees.specs.declared.shape.Entry.{Entry}
use Rattle.feature_trees.specs.declared.shape.Node.TheVariants as N
use Rattle.feature_trees.specs.declared.shape.Node.{Node}
use Rattle.feature_trees.specs.declared.value.Value.{Value}
use Rattle.feature_trees.specs.declared.value.Value.TheVariants as V
use Rattle.feature_trees.specs.declared.value.NamedValue.{NamedValue}

-- a value as a node; nothing is asked of Absent, which no entry has
abbrev pub node_of : Value → Node
node_of V.Absent = N.Reg
node_of V.Reg = N.Reg
node_of (V.Link b) = N.Link b
node_of (V.Special s) = N.Special s
node_of (V.Dir e) = N.Dir e

-- the entries of a directory, from what it holds
abbrev pub seen : List NamedValue → List Entry
seen [] = []
seen (h ∷ rest) = record { name = h.name; node = node_of h.value } ∷ seen rest

-- one layer of a node as a value
abbrev pub value_layer : Open.Node-F Node Entry → Value
value_layer Open.Reg = V.Reg
value_layer (Open.Link b) = V.Link b
value_layer (Open.Special s) = V.Special s
value_layer (Open.Dir es) = V.Dir es

-- a node as a value
abbrev pub value_of : Node → Value
value_of n = value_layer (out-Node n)

-- something is there: the value is not absent
abbrev pub IsThere : Value → Type 0
IsThere V.Absent = ⊥
IsThere V.Reg = Unit {0}
IsThere (V.Link b) = Unit {0}
IsThere (V.Special s) = Unit {0}
IsThere (V.Dir e) = Unit {0}

-- none of them is absent
abbrev pub AllThere : List NamedValue → Type 0
AllThere [] = Unit {0}
AllThere (h ∷ hs) = IsThere h.value × AllThere hs

-- a value that is there comes back from its node
pub value_of-node_of : (v : Value) → IsThere v → value_of (node_of v) ≡ v
value_of-node_of V.Absent h = absurd h
value_of-node_of V.Reg h = ap value_layer (outs-Reg)
value_of-node_of (V.Link b) h = ap value_layer (outs-Link b)
value_of-node_of (V.Special s) h = ap value_layer (outs-Special s)
value_of-node_of (V.Dir e) h = ap value_layer (outs-Dir e)
