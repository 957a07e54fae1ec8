-- How the tree of the greatest kinds is built, from the last variable to the first.
use Rattle.std.specs.Prelude.{◌≡◌, ℕ, ◌<◌, List, [], length, drop, map, Bool, slice_set, slice_index_or, Contains}
use Rattle.feature_trees.specs.declared.value.Value.{Value}
use Rattle.feature_trees.specs.declared.value.Value.TheVariants as value
use Rattle.feature_trees.specs.Tree.{update}
use Rattle.clause_solver.specs.declared.variable.Definition.{Definition}
use Rattle.clause_solver.specs.declared.variable.Definition.TheVariants.{Start, Child, Derived, Ensured, Made}
use Rattle.feature_trees.specs.declared.kind.Kind.{Kind}
use Rattle.clause_solver.specs.declared.variable.Variable.{Variable}
use Rattle.tree_clauses.specs.Literals.{Valuation, value_of_variable}
use Rattle.clause_solver.specs.Variables.{var_at}
use Rattle.clause_solver.specs.Greatest.{kind_at}
use Rattle.clause_solver.specs.Gathered.{Pair, Gathered, with_pair, finished}
use Rattle.clause_solver.specs.Grown.{grown, children, extra, values}
use Rattle.clause_solver.specs.Opens.{opened, without_children}

-- nothing is gathered past the end
abbrev pub no_place : Gathered
no_place = (value.Absent, [])

-- what is gathered for the variable with this number
abbrev pub place_at : List Gathered → ℕ → Gathered
place_at places k = slice_index_or places k no_place

-- before any entry is known
pub record AreWithoutChildren (vars : List Variable) (best : List Kind) (marks : List Bool) (z : List ℕ)
    (places : List Gathered) : Type 0 where
  pub counted : length places ≡ length vars
  pub each : (k : ℕ) → k < length vars → place_at places k ≡ (without_children vars best marks z k, [])

-- the first i values, with their entries among the variables from i on
pub record IsBuilt (vars : List Variable) (best : List Kind) (marks : List Bool) (z : List ℕ) (i : ℕ)
    (vs : Valuation) : Type 0 where
  pub counted : length vs ≡ i
  pub each : (k : ℕ) → k < i
      → value_of_variable vs k ≡ grown (kind_at best k) (var_at vars k).target
      (children k (drop i vars) (drop i (values best (opened vars marks) z 0 vars)) (extra (opened vars marks k) z))

-- the first i values, as they are once their entries are put in, and what is gathered for each: values of its children
pub record AreGathered (vars : List Variable) (best : List Kind) (marks : List Bool) (z : List ℕ) (i : ℕ)
    (places : List Gathered) : Type 0 where
  pub built : IsBuilt vars best marks z i (map finished places)
  pub from : (k : ℕ) (p : Pair) → k < i → Contains (place_at places k).1 p
      → (j : ℕ) × (j < length vars) × ((var_at vars j).definition ≡ Child k p.0)
      × (p.1 ≡ value_of_variable (values best (opened vars marks) z 0 vars) j)

-- a directory with another value under a name; nothing else has entries
abbrev pub with_entry : Value → List ℕ → Value → Value
with_entry value.Absent f v = value.Absent
with_entry value.Reg f v = value.Reg
with_entry (value.Link b) f v = value.Link b
with_entry (value.Special s) f v = value.Special s
with_entry (value.Dir es) f v = value.Dir (update es f v)

-- the values, with one more moved into its parent where it is an entry
abbrev pub moved_to_parent : Valuation → Definition → Value → Valuation
moved_to_parent vs Start v = vs
moved_to_parent vs (Child p f) v = slice_set vs p (with_entry (value_of_variable vs p) f v)
moved_to_parent vs (Derived x f y) v = vs
moved_to_parent vs (Ensured x) v = vs
moved_to_parent vs (Made m) v = vs

-- what is gathered, with one more value laid by at its parent where it is an entry
abbrev pub laid_by : List Gathered → Definition → Value → List Gathered
laid_by places Start v = places
laid_by places (Child p f) v = slice_set places p (with_pair (place_at places p) f v)
laid_by places (Derived x f y) v = places
laid_by places (Ensured x) v = places
laid_by places (Made m) v = places

-- the parent, if the definition names one, stands below this number
abbrev pub ParentBelow : ℕ → Definition → Type 0
ParentBelow n Start = Unit {0}
ParentBelow n (Child p f) = p < n
ParentBelow n (Derived x f y) = Unit {0}
ParentBelow n (Ensured x) = Unit {0}
ParentBelow n (Made m) = Unit {0}
