-- A look along the first literals of a case, in a store that stays as it is.
use Rattle.std.specs.Prelude.{◌≡◌, ℕ, ◌<◌, List}
use Rattle.feature_trees.specs.declared.value.Value.{Value}
use Rattle.tree_clauses.specs.declared.clause.Literal.{Literal}
use Rattle.tree_clauses.specs.declared.clause.Var.{Var}
use Rattle.tree_clauses.specs.Literals.{Valuation, value_of_variable, Meets, IsSound}
use Rattle.clause_solver.specs.Adds.{Begins}
use Rattle.clause_solver.specs.declared.looking.Looked.{Looked}
use Rattle.clause_solver.specs.declared.looking.Looked.TheVariants.{Excluded, At, Over}
use Rattle.clause_solver.specs.Stands.{Seen, Stands}

-- a valuation of the case goes with one of the store: the given variables have the values of these of the store, and
-- the variable x has the value of the store's variable n
pub record GoesWith (given : List Var) (x n : ℕ) (g h : Valuation) : Type 0 where
  pub values : IsSound h
  pub starts : Begins given g h
  pub same : value_of_variable h x ≡ value_of_variable g n

-- what a literal shows where a variable x of the case has the value of the store's variable n: that it never holds, or
-- that another variable y has the value of m wherever it holds
abbrev pub Shows : Seen → List Var → ℕ → ℕ → Literal → Looked → Type 0
Shows s given x n literal Excluded =
    (t : Value) (g h : Valuation) → Stands s t g → GoesWith given x n g h → ¬ (Meets h literal)
Shows s given x n literal (At y m) =
    (m.0 < s.count)
    × ((t : Value) (g h : Valuation) → Stands s t g → GoesWith given x n g h → Meets h literal
    → value_of_variable h y.0 ≡ value_of_variable g m.0)
Shows s given x n literal Over = Unit {0}
