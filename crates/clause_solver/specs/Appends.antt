-- One more variable, and where an entry of a variable is found.
use Rattle.std.specs.Prelude.{◌≡◌, ℕ, ◌<◌, List, [], ◌∷◌, ◌++◌, length, IsTrue}
use Rattle.feature_trees.specs.declared.value.Value.TheVariants as value
use Rattle.feature_trees.specs.Kinds.{all}
use Rattle.feature_trees.specs.Tree.{entry}
use Rattle.clause_solver.specs.declared.variable.TheConstants.{MOST_VARIABLES}
use Rattle.clause_solver.specs.declared.variable.Definition.{Definition}
use Rattle.clause_solver.specs.declared.variable.Definition.TheVariants.{Start, Child, Derived, Ensured, Made}
use Rattle.clause_solver.specs.declared.variable.Variable.{Variable}
use Rattle.clause_solver.specs.declared.appended.Found.{Found}
use Rattle.clause_solver.specs.declared.appended.Found.TheVariants.{Known, Nothing, At}
use Rattle.tree_clauses.specs.Literals.{Valuation, value_of_variable, IsSound}
use Rattle.clause_solver.specs.Variables.{var_at, is_node, AllFit, IsChild}
use Rattle.clause_solver.specs.Greatest.{best_by}
use Rattle.clause_solver.specs.Fresh.{fresh}
use Rattle.clause_solver.specs.Linked.{WithVariable}
use Rattle.clause_solver.specs.declared.lists.Lists.{Lists}

-- the variable y was added to the lists, with its greatest kind and its links
pub record IsAppended (old : Lists) (d : Definition) (new : Lists) (y : ℕ) : Type 0 where
  pub at : y ≡ length old.vars
  pub room : length old.vars < MOST_VARIABLES
  pub variable : new.vars ≡ old.vars ++ fresh d ∷ []
  pub kind : new.best ≡ old.best ++ best_by old.vars old.best all d ∷ []
  pub links : WithVariable old.vars old.kin d new.kin
  pub filled : new.filled ≡ old.filled
  pub alive : new.alive ≡ old.alive

-- a definition names known variables
abbrev pub Within : List Variable → Definition → Type 0
Within vars Start = Unit {0}
Within vars (Child p f) = p < length vars
Within vars (Derived x f y) = x < length vars
Within vars (Ensured x) = x < length vars
Within vars (Made m) = Unit {0}

-- the entry f of x is the entry f of another variable, in every valuation that is left
abbrev pub SameEntry : List Variable → ℕ → List ℕ → ℕ → Type 0
SameEntry vars x f n =
    (g : Valuation) → IsSound g → AllFit vars g → entry (value_of_variable g x) f ≡ entry (value_of_variable g n) f

-- the entry f of x is an older variable, nothing, or the entry f of a place of the start tree, in every valuation
-- that is left
abbrev pub LeadsTo : List Variable → ℕ → List ℕ → Found → Type 0
LeadsTo vars x f (Known y) =
    (y < length vars)
    × ((g : Valuation) → IsSound g → AllFit vars g → entry (value_of_variable g x) f ≡ value_of_variable g y)
LeadsTo vars x f Nothing = (g : Valuation) → IsSound g → AllFit vars g → entry (value_of_variable g x) f ≡ value.Absent
LeadsTo vars x f (At n) = (n < length vars) × IsTrue (is_node (var_at vars n).definition) × SameEntry vars x f n

-- no child is the same entry
abbrev pub IsSingle : List Variable → Definition → Type 0
IsSingle vars d = (x : ℕ) (f : List ℕ) (i : ℕ) → d ≡ Child x f → ¬ (IsChild vars x f i)
