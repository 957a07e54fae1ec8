-- What is answered of a clause and a tree.
use Rattle.std.specs.Prelude.{◌↔◌, IsTrue, Bool, Option, Some, None}
use Rattle.feature_trees.specs.declared.value.Value.{Value}
use Rattle.tree_clauses.specs.declared.clause.Clause.{Clause}
use Rattle.tree_clauses.specs.Literals.{CoversTree}
use Rattle.tree_clauses.specs.Solved.{IsSolved}

-- nothing for a clause that isn't in solved order, else whether it covers the tree
abbrev pub Decides : Clause → Value → Option Bool → Type 0
Decides clause tree None = ¬ (IsSolved clause)
Decides clause tree (Some covers) = IsSolved clause × (IsTrue covers ↔ CoversTree clause tree)
