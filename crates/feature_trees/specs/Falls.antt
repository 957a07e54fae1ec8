-- What a directory holds is smaller than the directory.
use Rattle.std.specs.Prelude.{◌+◌, ◌≤◌, List, [], ◌∷◌, max}
use Rattle.std.proofs.Common.{arith}
use denote.Param.Weighed.{most}
use Rattle.feature_trees.specs.declared.value.NamedValue.{NamedValue}
use Rattle.feature_trees.specs.Shape.{count_all, weight_Dir, entry_weight_of}
use Rattle.feature_trees.specs.View.{seen}
use Rattle.feature_trees.specs.View.{node_of}
use Rattle.feature_trees.specs.declared.value.Value.{Value}
use Rattle.feature_trees.specs.declared.value.Value.TheVariants.{Absent, Reg, Link, Special, Dir}
use Rattle.feature_trees.specs.declared.value.Entries.TheDeep.{deep-NamedValue, deep-Value}
use Rattle.feature_trees.specs.Shape.{weight}

-- a value is no deeper than it has entries, and one
deep_le : (v : Value) → deep-Value v ≤ weight (node_of v) + 1
deep_le Absent = omega arith
deep_le Reg = omega arith
deep_le (Link b) = omega arith
deep_le (Special s) = omega arith
deep_le (Dir e) = omega (arith, weight_Dir e)

-- no value that a directory holds is deeper than the directory has entries
pub most_le : (hs : List NamedValue) → max (most deep-NamedValue hs) 0 ≤ count_all (seen hs)
most_le [] = omega arith
most_le (h ∷ hs) =
    omega (arith, most_le hs, deep_le h.value, entry_weight_of (record { name = h.name; node = node_of h.value }))
