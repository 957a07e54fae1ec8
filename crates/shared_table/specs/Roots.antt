-- What a shared list keeps: its length, how many items a child of its root may have, and its root.
use Rattle.std.specs.Prelude.{◌≡◌, ℕ, ◌*◌, ◌^◌, ◌≤◌, List, [], length, Option, None, Some}
use Rattle.std.specs.declared.alloc.Global.{Global}
use Rattle.std.specs.declared.rc.Rc.{Rc}
use Rattle.shared_table.specs.declared.node.Node.{Node}

-- the items below a root; without a root there are none
abbrev pub items_in : {A : Type 0} → Option (Rc (Node A) Global) → List A
items_in None = []
items_in (Some root) = root.value.1

-- the length is that of the items, the width belongs to the root's height, and the root is no higher than they ask for
abbrev pub IsRoot : {A : Type 0} → ℕ → ℕ → Option (Rc (Node A) Global) → Type 0
IsRoot len width None = len ≡ 0
IsRoot len width (Some root) =
    (len ≡ length root.value.1) × (width ≡ 16 ^ root.value.0) × (width ≤ len) × (len ≤ 16 * width)
