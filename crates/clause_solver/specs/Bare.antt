-- What a start tree holds beside the entries that variables of a store stand for.
use Rattle.std.specs.Prelude.{◌≡◌, ◌≢◌, ◌⊎◌, ℕ, List, [], ◌∷◌, ◌++◌, Contains}
use Rattle.feature_trees.specs.declared.value.Value.{Value}
use Rattle.feature_trees.specs.declared.value.Value.TheVariants as value
use Rattle.feature_trees.specs.Tree.{at, entry}
use Rattle.tree_clauses.specs.declared.clause.Literal.{Literal}
use Rattle.tree_clauses.specs.declared.clause.Literal.TheVariants.{Entry, NotEmpty, Similar}
use Rattle.tree_clauses.specs.Literals.{Valuation, value_of_variable}
use Rattle.clause_solver.specs.Stands.{Seen}
use Rattle.clause_solver.specs.Written.{var}

-- the variable y stands for what is at this path below the variable x: each name of the path is that of an entry
-- literal
abbrev pub StandsBelow : List Literal → ℕ → List (List ℕ) → ℕ → Type 0
StandsBelow literals x [] y = x ≡ y
StandsBelow literals x (f ∷ p) y =
    (m : ℕ) × Contains literals (Entry (var x) f (var m)) × StandsBelow literals m p y

-- the variable x is the variable n, or has the entries of one that is made from n, but for those of some names
pub data IsMadeFrom (literals : List Literal) : ℕ → ℕ → Type 0 where
  same : {n : ℕ} → IsMadeFrom literals n n
  similar : {x n : ℕ} (y : ℕ) (names : List (List ℕ)) → Contains literals (Similar (var x) names (var y))
      → IsMadeFrom literals y n → IsMadeFrom literals x n

-- the entry f of the variable n is owed: a variable that is made from n has to have an entry, and has no other
pub record IsOwed (s : Seen) (g : Valuation) (n : ℕ) (f : List ℕ) : Type 0 where
  pub x : ℕ
  pub made : IsMadeFrom s.literals x n
  pub filled : Contains s.literals (NotEmpty (var x))
  pub only : (h : List ℕ) → entry (value_of_variable g x) h ≢ value.Absent → h ≡ f

-- a path is that of an entry that is owed, in a directory below the variable x that a variable stands for
pub record IsOwedBelow (s : Seen) (g : Valuation) (x : ℕ) (path : List (List ℕ)) : Type 0 where
  pub directory : List (List ℕ)
  pub name : List ℕ
  pub is : path ≡ directory ++ name ∷ []
  pub n : ℕ
  pub stands : StandsBelow s.literals x directory n
  pub owed : IsOwed s g n name

-- some variable stands for what is at a path below the variable x, or it is owed
abbrev pub IsAccounted : Seen → Valuation → ℕ → List (List ℕ) → Type 0
IsAccounted s g x path = ((y : ℕ) × StandsBelow s.literals x path y) ⊎ IsOwedBelow s g x path

-- the start tree holds nothing but what variables stand for and what is owed
abbrev pub IsBare : Seen → Value → Valuation → Type 0
IsBare s t g = (path : List (List ℕ)) → at t path ≢ value.Absent → IsAccounted s g 0 path
