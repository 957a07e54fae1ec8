-- The children of a node are lower than the node: why what goes down the tree ends.
use Rattle.std.specs.Prelude.{ℕ, ◌+◌, ◌≤◌, List, [], ◌∷◌, max}
use Rattle.std.proofs.Common.{arith}
use denote.Param.Weighed.{most}
use Rattle.std.specs.declared.alloc.Global.{Global}
use Rattle.std.specs.declared.rc.Rc.{Rc}
use Rattle.shared_table.specs.Children.{IsRow}
use Rattle.shared_table.specs.Nodes.{IsNode, child_values}
use Rattle.shared_table.specs.declared.node.Node.{Node}
use Rattle.shared_table.specs.declared.node.Node.TheDeep.{deep-Part}
use Rattle.shared_table.specs.declared.node.Part.{Part}
use Rattle.shared_table.specs.declared.node.Part.TheVariants.{Leaf, Inner}

most_row : {A : Type 0} (height width : ℕ) (children : List (Rc (Node A) Global))
    → IsRow height width (child_values children) → most (λ child. child.value.0 + 1) children ≤ height
most_row height width [] row = omega arith
most_row height width (child ∷ children) row = omega (arith, row.0, most_row height width children row.2)

-- the height of a node is a measure
pub falls : {A : Type 0} (height : ℕ) (part : Part A) → IsNode height part → max (deep-Part A part) 0 ≤ height
falls height (Leaf items) node = omega arith
falls height (Inner children) node = omega (arith, most_row height _ children.items node.1)
