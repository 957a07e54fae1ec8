-- Looking along names: which kinds the values have, and the literals that say so.
use Rattle.std.specs.Prelude.{ℕ, ◌+◌, List, [], ◌∷◌, IsTrue}
use Rattle.feature_trees.specs.declared.value.Value.{Value}
use Rattle.feature_trees.specs.declared.kind.Kinds.{Kinds}
use Rattle.feature_trees.specs.Kinds.{has}
use Rattle.feature_trees.specs.Tree.{entry, kind_of}
use Rattle.tree_clauses.specs.declared.clause.Var.{Var}
use Rattle.tree_clauses.specs.declared.clause.Literal.{Literal}
use Rattle.tree_clauses.specs.declared.clause.Literal.TheVariants.{Entry, Kind}
use Rattle.act_cases.specs.declared.looks.Ways.{Ways}

-- the variable with this number
abbrev pub var : ℕ → Var
var i = record { 0 = i }

-- the kinds of the value from which these names go on
abbrev pub kinds_from : Ways → List (List ℕ) → Kinds
kinds_from w [] = w.last
kinds_from w (f ∷ []) = w.parent
kinds_from w (f ∷ g ∷ rest) = w.strict

-- the value, and those that the names lead to, have these kinds
abbrev pub Sees : Ways → Value → List (List ℕ) → Type 0
Sees w v [] = IsTrue (has w.last (kind_of v))
Sees w v (f ∷ rest) = IsTrue (has (kinds_from w (f ∷ rest)) (kind_of v)) × Sees w (entry v f) rest

-- the literals of the entries along the names: x is the variable of the value that they go from, and the entries are
-- y and those behind it
abbrev pub way_literals : Ways → ℕ → ℕ → List (List ℕ) → List Literal
way_literals w x y [] = []
way_literals w x y (f ∷ rest) =
    Entry (var x) f (var y) ∷ Kind (var y) (kinds_from w rest) ∷ way_literals w y (y + 1) rest

-- the literals of the value and of those entries
abbrev pub look_literals : Ways → ℕ → ℕ → List (List ℕ) → List Literal
look_literals w x y names = Kind (var x) (kinds_from w names) ∷ way_literals w x y names

-- the variable of what the names lead to
abbrev pub end_of : ℕ → ℕ → List (List ℕ) → ℕ
end_of x y [] = x
end_of x y (f ∷ rest) = end_of y (y + 1) rest
