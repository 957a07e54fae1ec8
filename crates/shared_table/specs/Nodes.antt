-- What a node of a shared list keeps.
use Rattle.std.specs.Prelude.{◌≡◌, ℕ, suc, ◌^◌, ◌<◌, ◌≤◌, List, length, map}
use Rattle.std.specs.declared.alloc.Global.{Global}
use Rattle.std.specs.declared.rc.Rc.{Rc}
use Rattle.shared_table.specs.Children.{joined, IsRow}
use Rattle.shared_table.specs.declared.node.Node.{Node}
use Rattle.shared_table.specs.declared.node.Part.{Part}
use Rattle.shared_table.specs.declared.node.Part.TheVariants.{Leaf, Inner}

-- what the children are seen as: the height and the items of each
abbrev pub child_values : {A : Type 0} → List (Rc (Node A) Global) → List (ℕ × List A)
child_values children = map (λ child. child.value) children

-- the items of a node, in order
abbrev pub items_of : {A : Type 0} → Part A → List A
items_of (Leaf items) = items.items
items_of (Inner children) = joined (child_values children.items)

-- a node of a height: a leaf has height 0 and up to 16 items; any other has children that are filled in order, and
-- together no more than 16 times as many items as one child may have
abbrev pub IsNode : {A : Type 0} → ℕ → Part A → Type 0
IsNode height (Leaf items) = (height ≡ 0) × (length items.items ≤ 16)
IsNode height (Inner children) =
    (0 < height) × IsRow height (16 ^ height) (child_values children.items)
    × (length (joined (child_values children.items)) ≤ 16 ^ suc height)
