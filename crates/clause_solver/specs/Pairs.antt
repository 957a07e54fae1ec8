-- The pairs of a store: a start tree and the tree now.
use Rattle.std.specs.Prelude.{◌≡◌}
use Rattle.feature_trees.specs.declared.value.Value.{Value}
use Rattle.tree_clauses.specs.Literals.{Valuation, value_of_variable}
use Rattle.clause_solver.specs.Stands.{Seen, Stands}

-- the store has this pair: some valuation that it stands for has the one tree for the start and the other for the
-- tree now
abbrev pub HasPair : Seen → Value → Value → Type 0
HasPair s t u = (g : Valuation) × Stands s t g × (value_of_variable g s.current ≡ u)
