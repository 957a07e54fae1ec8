-- What a case adds to a store.
use Rattle.std.specs.Prelude.{◌≡◌, ℕ, ◌<◌, ◌≤◌, ◌↔◌, List, length, take, slice_index_or}
use Rattle.feature_trees.specs.declared.value.Value.{Value}
use Rattle.tree_clauses.specs.Literals.{Valuation, value_of_variable, IsSound, MeetsAll}
use Rattle.tree_clauses.specs.declared.case.Case.{Case}
use Rattle.tree_clauses.specs.declared.clause.Var.{Var}
use Rattle.tree_clauses.specs.Leads.{Leads, LeadsBack}
use Rattle.clause_solver.specs.Stands.{Seen, Stands, Alive}
use Rattle.clause_solver.specs.Pairs.{HasPair}

-- ---- from any given variables

-- the variable of the store that the given variable with this number stands for
abbrev pub given_at : List Var → ℕ → ℕ
given_at given i = (slice_index_or given i (record { 0 = 0 })).0

-- each of these is below the count
abbrev pub AllInside : List Var → ℕ → Type 0
AllInside given count = (i : ℕ) → i < length given → given_at given i < count

-- a valuation of a case's variables gives the given ones the values of these variables of the store, in their order
abbrev pub Begins : List Var → Valuation → Valuation → Type 0
Begins given g h =
    (i : ℕ) → i < length given → value_of_variable h i ≡ value_of_variable g (given_at given i)

-- the case leads from the values of these variables, which its given ones have, to a value
pub record LeadsFrom (made : Case) (given : List Var) (g : Valuation) (u : Value) : Type 0 where
  pub valuation : Valuation
  pub values : IsSound valuation
  pub starts : Begins given g valuation
  pub ends : value_of_variable valuation made.root.0 ≡ u
  pub met : MeetsAll valuation made.literals

-- The new store's pairs are those of the old one from the values of whose given variables the case leads on, with the
-- tree that it leads to as the tree now; each valuation begins with that of the old pair.
pub record AddsFrom (old : Seen) (given : List Var) (made : Case) (new : Seen) : Type 0 where
  pub alive : Alive new
  pub more : old.count ≤ new.count
  pub down : (t : Value) (g : Valuation) → Stands new t g
      → Stands old t (take old.count g) × LeadsFrom made given g (value_of_variable g new.current)
  pub up : (t : Value) (g : Valuation) (v : Value) → Stands old t g → LeadsFrom made given g v
      → (h : Valuation) × Stands new t h × (take old.count h ≡ g) × (value_of_variable h new.current ≡ v)

-- the case leads on from no pair
abbrev pub LeadsNowhereFrom : Seen → List Var → Case → Type 0
LeadsNowhereFrom old given made =
    (t : Value) (g : Valuation) (v : Value) → Stands old t g → ¬ (LeadsFrom made given g v)

-- ---- from the tree now

-- the store has a pair of a start tree with a tree from which the case leads to this one
abbrev pub HasStep : Seen → Case → Value → Value → Type 0
HasStep s made t v = (u : Value) × HasPair s t u × Leads made u v

-- the new store's pairs are those of the old one from whose tree now the case leads on, with the tree that it leads to
-- as the tree now; each valuation begins with that of the old pair
pub record AddsCase (old : Seen) (made : Case) (new : Seen) : Type 0 where
  pub alive : Alive new
  pub pairs : (t v : Value) → HasPair new t v ↔ HasStep old made t v
  pub more : old.count ≤ new.count
  pub down : (t : Value) (g : Valuation) → Stands new t g
      → Stands old t (take old.count g) × Leads made (value_of_variable g old.current) (value_of_variable g new.current)
  pub up : (t : Value) (g : Valuation) (v : Value) → Stands old t g → Leads made (value_of_variable g old.current) v
      → (h : Valuation) × Stands new t h × (take old.count h ≡ g) × (value_of_variable h new.current ≡ v)

-- the case leads on from no tree now
abbrev pub LeadsNowhere : Seen → Case → Type 0
LeadsNowhere old made = (t v : Value) → ¬ (HasStep old made t v)

-- ---- from the tree now and a kept tree

-- The new store's pairs are those of the old one from whose tree now, and from the value of the kept variable, the back
-- case leads on, with the tree that it leads to as the tree now; each valuation begins with that of the old pair.
pub record AddsBack (old : Seen) (kept : ℕ) (made : Case) (new : Seen) : Type 0 where
  pub alive : Alive new
  pub more : old.count ≤ new.count
  pub down : (t : Value) (g : Valuation) → Stands new t g
      → Stands old t (take old.count g)
      × LeadsBack made (value_of_variable g old.current) (value_of_variable g kept) (value_of_variable g new.current)
  pub up : (t : Value) (g : Valuation) (v : Value) → Stands old t g
      → LeadsBack made (value_of_variable g old.current) (value_of_variable g kept) v
      → (h : Valuation) × Stands new t h × (take old.count h ≡ g) × (value_of_variable h new.current ≡ v)

-- the back case leads on from no pair
abbrev pub LeadsBackNowhere : Seen → ℕ → Case → Type 0
LeadsBackNowhere old kept made =
    (t : Value) (g : Valuation) (v : Value) → Stands old t g
    → ¬ (LeadsBack made (value_of_variable g old.current) (value_of_variable g kept) v)
