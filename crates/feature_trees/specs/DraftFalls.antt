-- What a directory in the making holds is smaller than the directory.
use Rattle.std.specs.Prelude.{ℕ, ◌+◌, ◌≤◌, List, [], ◌∷◌, max, map}
use Rattle.std.specs.Global.{Vec}
use Rattle.std.proofs.Common.{arith}
use denote.Param.Weighed.{most}
use Rattle.feature_trees.specs.declared.draft.Draft.{Draft}
use Rattle.feature_trees.specs.declared.draft.Draft.TheVariants.{Reg, Link, Special, Dir}
use Rattle.feature_trees.specs.declared.draft.Drafts.TheDeep.{deep-Draft}
use Rattle.feature_trees.specs.Drafts.{draft_value, seen_drafts}
use Rattle.feature_trees.specs.Shape.{weight, count_all, weight_Dir, entry_weight_of}
use Rattle.feature_trees.specs.View.{node_of}

-- a draft is no deeper than it has entries, and one
deep_le : (d : Draft) → deep-Draft d ≤ weight (node_of (draft_value d)) + 1
deep_le Reg = omega arith
deep_le (Link b) = omega arith
deep_le (Special s) = omega arith
deep_le (Dir es) = omega (arith, weight_Dir es)

-- no draft that a directory holds is deeper than the directory has entries
pub most_le : (es : List (Vec ℕ × Draft)) → max (most deep-Draft (map (λ e. e.1) es)) 0 ≤ count_all (seen_drafts es)
most_le [] = omega arith
most_le (e ∷ es) =
    let more = entry_weight_of (record { name = e.0.items; node = node_of (draft_value e.1) }) in
    omega (arith, most_le es, deep_le e.1, more)
