-- A variable that is to be a symbolic link to a target.
use Rattle.std.specs.Prelude.{◌≡◌, ◌≢◌, ℕ, List, length, None, IsTrue}
use Rattle.feature_trees.specs.declared.value.Value.TheVariants as value
use Rattle.tree_clauses.specs.Literals.{Valuation, value_of_variable}
use Rattle.clause_solver.specs.declared.leading.Aim.{Aim}
use Rattle.clause_solver.specs.declared.leading.Aim.TheVariants.{Met, Missed, Open}
use Rattle.clause_solver.specs.declared.variable.Variable.{Variable}
use Rattle.clause_solver.specs.Variables.{is_node, Fits, AllFit, OnlyDir}

-- what is known of the variable: it is a symbolic link to the target; or it is none; or it is a place of the start tree
-- whose target is not known
abbrev pub IsAim : Variable → List ℕ → Aim → Type 0
IsAim v b Met = (g : Valuation) (i : ℕ) → Fits g i v → value_of_variable g i ≡ value.Link b
IsAim v b Missed = (g : Valuation) (i : ℕ) → Fits g i v → value_of_variable g i ≢ value.Link b
IsAim v b Open = IsTrue (is_node v.definition) × (v.target ≡ None)

-- the new variables leave the valuations of the old ones in which x is a symbolic link to the target
pub record IsLed (old : List Variable) (x : ℕ) (b : List ℕ) (new : List Variable) : Type 0 where
  pub long : length new ≡ length old
  pub first : OnlyDir old 0 → OnlyDir new 0
  pub down : (g : Valuation) → AllFit new g → AllFit old g × (value_of_variable g x ≡ value.Link b)
  pub up : (g : Valuation) → AllFit old g → value_of_variable g x ≡ value.Link b → AllFit new g
