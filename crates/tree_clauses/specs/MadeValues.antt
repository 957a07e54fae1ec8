-- Values that are made of others: entries replaced, and names in the order of their bytes.
use Rattle.std.specs.Prelude.{ℕ, Bool, false, ◌&&◌, ◌==◌, List, [], ◌∷◌, Option, Some, None, if◌then◌else◌}
use Rattle.std.specs.Option.{option_and_then}
use Rattle.std.specs.Str.{bytes_eq}
use Rattle.feature_trees.specs.declared.shape.Entry.{Entry}
use Rattle.feature_trees.specs.declared.value.Value.{Value}
use Rattle.feature_trees.specs.Tree.{update}
use Rattle.tree_clauses.specs.declared.clause.Literal.{Literal}
use Rattle.tree_clauses.specs.declared.clause.Literal.TheVariants as L
use Rattle.tree_clauses.specs.Steps.{Known}

-- whether the first of the names is this one
abbrev pub is_first : List ℕ → List (List ℕ) → Bool
is_first f [] = false
is_first f (g ∷ names) = bytes_eq f g

-- each name but those that the same name follows
abbrev pub once : List (List ℕ) → List (List ℕ)
once [] = []
once (f ∷ names) = if is_first f names then once names else f ∷ once names

-- the value of the entry of y under a name, where the literal says that
abbrev pub entry_value : Known → ℕ → List ℕ → Literal → Option Value
entry_value known y f (L.Entry x g z) = if (x.0 == y) && bytes_eq g f then known z.0 else None
entry_value known y f (L.Kind x kinds) = None
entry_value known y f (L.Fence x names) = None
entry_value known y f (L.NotEmpty x) = None
entry_value known y f (L.Similar x names z) = None
entry_value known y f (L.Target x target) = None

-- the entries with those of y under these names in place of their own, where the literals begin with these
abbrev pub replaced : Known → ℕ → List (List ℕ) → List Literal → List Entry → Option (List Entry)
replaced known y [] literals es = Some es
replaced known y (f ∷ names) [] es = None
replaced known y (f ∷ names) (literal ∷ literals) es =
    option_and_then (λ v. replaced known y names literals (update es f v)) (entry_value known y f literal)
