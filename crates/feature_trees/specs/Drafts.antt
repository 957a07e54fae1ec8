-- What a tree in the making stands for.
use Rattle.std.specs.Prelude.{ℕ, List, [], ◌∷◌}
use Rattle.std.specs.Global.{Vec}
use Rattle.feature_trees.specs.declared.draft.Draft.{Draft}
use Rattle.feature_trees.specs.declared.draft.Draft.TheVariants as D
use Rattle.feature_trees.specs.declared.shape.Entry.{Entry}
use Rattle.feature_trees.specs.declared.value.Value.{Value}
use Rattle.feature_trees.specs.declared.value.Value.TheVariants.{Reg, Link, Special, Dir}
use Rattle.feature_trees.specs.View.{node_of}

-- the value that a draft stands for
abbrev pub draft_value : Draft → Value
draft_value D.Reg = Reg
draft_value (D.Link target) = Link target
draft_value (D.Special s) = Special s
draft_value (D.Dir es) = Dir es

-- the entries of a directory, from its map
abbrev pub seen_drafts : List (Vec ℕ × Draft) → List Entry
seen_drafts [] = []
seen_drafts (e ∷ es) = record { name = e.0.items; node = node_of (draft_value e.1) } ∷ seen_drafts es
