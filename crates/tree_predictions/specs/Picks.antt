-- Which of many clauses a tree has, and what is answered of many trees.
use Rattle.std.specs.Prelude.{◌≡◌, ℕ, ◌+◌, ◌<◌, List, length, All, Option, Some, None, Result, Ok, Err}
use Rattle.std.specs.List.{AllWithin, AllZip, HoldsAt}
use Rattle.feature_trees.specs.declared.value.Value.{Value}
use Rattle.tree_clauses.specs.declared.clause.Clause.{Clause}
use Rattle.tree_clauses.specs.Literals.{CoversTree}
use Rattle.tree_clauses.specs.Solved.{IsSolved}
use Rattle.tree_predictions.specs.declared.fault.PredictFault.{PredictFault}
use Rattle.tree_predictions.specs.declared.fault.PredictFault.TheVariants.{Unsolved, Memory}

-- the number, counted from 1, is that of the first clause of which something holds
pub record IsFirst (Holds : Clause → Type 0) (clauses : List Clause) (number : ℕ) : Type 0 where
  pub place : ℕ
  pub counted : number ≡ place + 1
  pub within : place < length clauses
  pub holds : HoldsAt Holds clauses place
  pub first : AllWithin (λ clause. ¬ (Holds clause)) clauses 0 place

-- the pick for a tree: the number of the first clause that covers it; none where none does
abbrev pub IsPick : List Clause → Value → Option ℕ → Type 0
IsPick clauses tree None = All (λ clause. ¬ (CoversTree clause tree)) clauses
IsPick clauses tree (Some number) = IsFirst (λ clause. CoversTree clause tree) clauses number

-- whether all clauses are in solved order: nothing, or the number of the first that is not
abbrev pub FirstUnsolved : List Clause → Option ℕ → Type 0
FirstUnsolved clauses None = All IsSolved clauses
FirstUnsolved clauses (Some number) = IsFirst (λ clause. ¬ (IsSolved clause)) clauses number

-- these are the picks for the trees, in their order
abbrev pub ArePicks : List Clause → List Value → List (Option ℕ) → Type 0
ArePicks clauses trees picks = AllZip (IsPick clauses) trees picks

-- The answer: the picks, where all clauses are in solved order, else the number of the first that is not; or there is
-- no memory.
abbrev pub PredictGives : List Clause → List Value → Result (List (Option ℕ)) PredictFault → Type 0
PredictGives clauses trees (Ok picks) = All IsSolved clauses × ArePicks clauses trees picks
PredictGives clauses trees (Err (Unsolved number)) = IsFirst (λ clause. ¬ (IsSolved clause)) clauses number
PredictGives clauses trees (Err Memory) = Unit {0}
