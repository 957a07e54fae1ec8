-- What stands of the lists of a store at every step: each variable has its greatest kind, and whether a pair is left is
-- known.
use Rattle.std.specs.Prelude.{◌≡◌, ◌↔◌, ℕ, ◌<◌, ◌≤◌, List, [], length, slice_index_or, IsTrue}
use Rattle.feature_trees.specs.declared.kind.Kind.{Kind}
use Rattle.feature_trees.specs.Kinds.{has}
use Rattle.tree_clauses.specs.Literals.{Valuation, IsSound}
use Rattle.clause_solver.specs.declared.lists.Lists.{Lists}
use Rattle.clause_solver.specs.declared.variable.TheConstants.{MOST_VARIABLES}
use Rattle.clause_solver.specs.declared.variable.Variable.{Variable}
use Rattle.clause_solver.specs.Variables.{var_at, AllFit, Ordered}
use Rattle.clause_solver.specs.Greatest.{IsBest, HasEntryOutside, kind_at, unfenced}
use Rattle.clause_solver.specs.Linked.{AreLinked}

-- the greatest kind of every variable is one of its kinds
abbrev pub AreKindsFitting : List Variable → List Kind → Type 0
AreKindsFitting vars best = (i : ℕ) → i < length vars → IsTrue (has (var_at vars i).kinds (kind_at best i))

-- some valuation is left
abbrev pub IsLeft : List Variable → Type 0
IsLeft vars = (g : Valuation) × (length g ≡ length vars) × IsSound g × AllFit vars g

-- the number at a place
abbrev pub number_at : List ℕ → ℕ → ℕ
number_at numbers k = slice_index_or numbers k 0

-- these are the variables of which it is known that they have an entry
pub record AreFilled (vars : List Variable) (filled : List ℕ) : Type 0 where
  pub each : (k : ℕ) → k < length filled
      → (number_at filled k < length vars) × IsTrue (var_at vars (number_at filled k)).not_empty
  pub all : (i : ℕ) → i < length vars → IsTrue (var_at vars i).not_empty
      → (k : ℕ) × (k < length filled) × (number_at filled k ≡ i)

-- each of these variables has an entry among the greatest kinds
abbrev pub HaveEntries : List Variable → List Kind → List ℕ → Type 0
HaveEntries vars best filled =
    (k : ℕ) → k < length filled → HasEntryOutside vars best (unfenced vars) (number_at filled k) []

-- the variables stand in order, each with its greatest kind and its links; those that have an entry by a fact are
-- listed; and it is known whether some valuation is left
pub record AreDecided (a : Lists) : Type 0 where
  pub order : Ordered a.vars
  pub same : length a.best ≡ length a.vars
  pub best : IsBest a.vars a.best
  pub linked : AreLinked a.vars a.kin
  pub small : length a.vars ≤ MOST_VARIABLES
  pub filled : AreFilled a.vars a.filled
  pub alive : IsTrue a.alive ↔ IsLeft a.vars
