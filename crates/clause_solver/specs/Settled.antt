-- The greatest kinds after that of a place fell, or its fence let in fewer names: its entries, and what stands below
-- them, fall with it.
use Rattle.std.specs.Prelude.{◌≡◌, ◌≢◌, ◌⊎◌, ◌↔◌, ℕ, ◌+◌, ◌<◌, List, length, Bool, IsTrue}
use Rattle.feature_trees.specs.declared.kind.Kind.{Kind}
use Rattle.feature_trees.specs.declared.kind.Kind.TheVariants.{Absent}
use Rattle.feature_trees.specs.declared.kind.Kinds.{Kinds}
use Rattle.feature_trees.specs.Kinds.{has}
use Rattle.clause_solver.specs.declared.variable.Variable.{Variable}
use Rattle.clause_solver.specs.Variables.{var_at}
use Rattle.clause_solver.specs.Greatest.{kind_at, best_by, best_of}
use Rattle.clause_solver.specs.Linked.{IsChildOf}

-- the variable has its greatest kind, given those of the earlier ones
abbrev pub IsGreatest : List Variable → List Kind → ℕ → Type 0
IsGreatest vars best i = kind_at best i ≡ best_of vars best i

-- the variable had its greatest kind before it was narrowed
abbrev pub WasGreatest : List Variable → List Kind → ℕ → Type 0
WasGreatest vars best i =
    (ks : Kinds) × (kind_at best i ≡ best_by vars best ks (var_at vars i).definition)
    × ((k : Kind) → IsTrue (has (var_at vars i).kinds k) → IsTrue (has ks k))

-- the variable can be absent alone, given the kinds of the earlier ones
abbrev pub IsShut : List Variable → List Kind → ℕ → Type 0
IsShut vars best i = best_of vars best i ≡ Absent

-- each variable whose kind changed may be absent
abbrev pub MayFall : List Variable → List Kind → List Kind → Type 0
MayFall vars old new =
    (i : ℕ) → i < length vars → kind_at new i ≢ kind_at old i → IsTrue (has (var_at vars i).kinds Absent)

-- the kinds that changed have become absent, none of them below a number; and it is said whether all these may be
-- absent
pub record Falls (vars : List Variable) (bound : ℕ) (old new : List Kind) (fits : Bool) : Type 0 where
  pub same : length new ≡ length old
  pub kept : (i : ℕ) → i < bound → kind_at new i ≡ kind_at old i
  pub absent : (i : ℕ) → (kind_at new i ≡ kind_at old i) ⊎ (kind_at new i ≡ Absent)
  pub may : IsTrue fits ↔ MayFall vars old new

-- the entries of the place p that are shut have become absent, and what stands below them has its greatest kind again,
-- where it had it
pub record AreSettled (vars : List Variable) (p : ℕ) (old new : List Kind) (fits : Bool) : Type 0 where
  pub falls : Falls vars (p + 1) old new fits
  pub greatest : (i : ℕ) → i < length vars → IsGreatest vars old i ⊎ (IsChildOf vars p i × IsShut vars old i)
      → IsGreatest vars new i

-- the entry m, if it is shut, has become absent, and what stands below it has its greatest kind again, where it had it
pub record IsSettledAt (vars : List Variable) (m : ℕ) (old new : List Kind) (fits : Bool) : Type 0 where
  pub falls : Falls vars m old new fits
  pub greatest : (i : ℕ) → i < length vars → IsGreatest vars old i ⊎ ((i ≡ m) × IsShut vars old i)
      → IsGreatest vars new i
