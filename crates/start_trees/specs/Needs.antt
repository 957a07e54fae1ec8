-- What a start tree has: something of some kinds, or with entries under some names, or a symbolic link, at each of some
-- paths.
use Rattle.std.specs.Prelude.{◌≡◌, ◌↔◌, ◌≤◌, ℕ, IsTrue, List, [], ◌∷◌, Option, Some, None, take}
use Rattle.feature_trees.specs.declared.value.Value.{Value}
use Rattle.feature_trees.specs.declared.value.Value.TheVariants as value
use Rattle.feature_trees.specs.Kinds.{has}
use Rattle.feature_trees.specs.Tree.{at, kind_of}
use Rattle.feature_trees.specs.Sound.{IsTree}
use Rattle.tree_clauses.specs.Literals.{Valuation, value_of_variable}
use Rattle.clause_solver.specs.Stands.{Seen, Stands, Alive, IsFenced}
use Rattle.clause_solver.specs.Pairs.{HasPair}
use Rattle.start_trees.specs.declared.need.Need.{Need}
use Rattle.start_trees.specs.declared.need.Wanted.{Wanted}
use Rattle.start_trees.specs.declared.need.Wanted.TheVariants.{Kinds, Names, Target}

-- a value, which may be nothing, is as wanted: it is of one of the kinds; it has entries under the names alone; it is
-- a symbolic link with the target
abbrev pub IsWanted : Wanted → Value → Type 0
IsWanted (Kinds kinds) v = IsTrue (has kinds (kind_of v))
IsWanted (Names names) v = IsFenced v names
IsWanted (Target b) v = v ≡ value.Link b

-- what stands at the path, which may be nothing, is as wanted
abbrev pub MeetsNeed : Value → Need → Type 0
MeetsNeed tree need = IsWanted need.wanted (at tree need.path.names)

-- at the path of each need stands what is wanted
abbrev pub MeetsNeeds : Value → List Need → Type 0
MeetsNeeds tree [] = Unit {0}
MeetsNeeds tree (need ∷ needs) = MeetsNeed tree need × MeetsNeeds tree needs

-- a tree of files that has what is needed
pub record IsStart (needs : List Need) (tree : Value) : Type 0 where
  pub is_tree : IsTree tree
  pub met : MeetsNeeds tree needs

-- the new store has those pairs of the old one in which the variable x is as wanted, each valuation extended by values
-- for the new variables
pub record Leaves (old new : Seen) (x : ℕ) (wanted : Wanted) : Type 0 where
  pub more : old.count ≤ new.count
  pub same : new.current ≡ old.current
  pub down : (t : Value) (g : Valuation) → Stands new t g
      → Stands old t (take old.count g) × IsWanted wanted (value_of_variable g x)
  pub up : (t : Value) (g : Valuation) → Stands old t g → IsWanted wanted (value_of_variable g x)
      → (h : Valuation) × Stands new t h × (take old.count h ≡ g)

-- the store has these trees, each with itself as the tree now, and there is one; without a store there is no such tree
abbrev pub AreStarts : Option Seen → List Need → Type 0
AreStarts None needs = (t : Value) → IsStart needs t → ⊥
AreStarts (Some s) needs = ((t u : Value) → HasPair s t u ↔ (IsStart needs t × (u ≡ t))) × Alive s
