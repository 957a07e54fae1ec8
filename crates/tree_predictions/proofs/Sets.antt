-- The names of trees beside the trees.
use Rattle.std.proofs.Common.{◌≡◌, ℕ, Bool, true, false, List, [], ◌∷◌, ◌++◌, refl, sym, ◌∙◌}
use Rattle.std.specs.Prelude.{◌||◌}
use Rattle.std.specs.Str.{bytes_eq}
use Rattle.std.proofs.lemmas.List.Folds.{list_any-append}
use Rattle.tree_predictions.specs.declared.named_tree.NamedTree.{NamedTree}
use Rattle.tree_predictions.specs.NamedTrees.{is_named}

turned : (a b : Bool) → (b || a) ≡ (a || (b || false))
turned true true = refl
turned true false = refl
turned false true = refl
turned false false = refl

-- one more tree has one more name
pub one_name : (trees : List NamedTree) (more : NamedTree) (name : List ℕ)
    → (bytes_eq more.name name || is_named trees name) ≡ is_named (trees ++ more ∷ []) name
one_name trees more name =
    turned (is_named trees name) (bytes_eq more.name name)
    ∙ sym (list_any-append (λ (named : NamedTree). bytes_eq named.name name) trees (more ∷ []))
