-- What a store stands for: pairs of a start tree and a valuation of the store's variables.
use Rattle.std.specs.Prelude.{◌≡◌, ◌≢◌, ℕ, ◌<◌, ◌≤◌, List, [], ◌∷◌, length, take, Contains}
use Rattle.feature_trees.specs.declared.value.Value.{Value}
use Rattle.feature_trees.specs.declared.value.Value.TheVariants as value
use Rattle.feature_trees.specs.declared.kind.Kind.TheVariants as kind
use Rattle.feature_trees.specs.Tree.{entry, entries_of, kind_of, put}
use Rattle.tree_clauses.specs.declared.clause.Literal.{Literal}
use Rattle.tree_clauses.specs.Literals.{Valuation, value_of_variable, MeetsAll, IsSound}

-- a store is seen as the count of its variables, their literals, and the variable of the tree now; variable 0 is the
-- start
pub record Seen : Type 0 where
  pub count : ℕ
  pub literals : List Literal
  pub current : ℕ

-- the store stands for a start tree and a valuation: one value of the file tree for each variable, the start tree for
-- variable 0, a directory there and for the tree now, and all literals met. For one start tree there is one valuation
-- at most (`Store::now`), since each variable is defined from earlier ones
pub record Stands (s : Seen) (t : Value) (g : Valuation) : Type 0 where
  pub counted : length g ≡ s.count
  pub starts : value_of_variable g 0 ≡ t
  pub tree : kind_of t ≡ kind.Dir
  pub ends : kind_of (value_of_variable g s.current) ≡ kind.Dir
  pub met : MeetsAll g s.literals
  pub values : IsSound g

-- some pair is left
abbrev pub Alive : Seen → Type 0
Alive s = (t : Value) × (g : Valuation) × Stands s t g

-- the new store has the pairs of the old one, each valuation extended by values for the new variables
pub record Extends (old new : Seen) : Type 0 where
  pub more : old.count ≤ new.count
  pub same : new.current ≡ old.current
  pub down : (t : Value) (g : Valuation) → Stands new t g → Stands old t (take old.count g)
  pub up : (t : Value) (g : Valuation) → Stands old t g → (h : Valuation) × Stands new t h × (take old.count h ≡ g)

-- the variable y is the entry f of x, in every pair
pub record HasEntry (s : Seen) (x : ℕ) (f : List ℕ) (y : ℕ) : Type 0 where
  pub known : y < s.count
  pub is : (t : Value) (g : Valuation) → Stands s t g → value_of_variable g y ≡ entry (value_of_variable g x) f

-- the variable x is a directory, in every pair
abbrev pub IsDirectory : Seen → ℕ → Type 0
IsDirectory s x = (t : Value) (g : Valuation) → Stands s t g → kind_of (value_of_variable g x) ≡ kind.Dir

-- the variable y is x with the value of z put under the name f, in every pair
pub record HasPut (s : Seen) (x : ℕ) (f : List ℕ) (z y : ℕ) : Type 0 where
  pub known : y < s.count
  pub is : (t : Value) (g : Valuation) → Stands s t g
      → value_of_variable g y ≡ put (value_of_variable g x) (f ∷ []) (value_of_variable g z)

-- the variable y is this value, in every pair
pub record HasValue (s : Seen) (y : ℕ) (v : Value) : Type 0 where
  pub known : y < s.count
  pub is : (t : Value) (g : Valuation) → Stands s t g → value_of_variable g y ≡ v

-- the variable y is a directory with the entries of x, in every pair
pub record HasEntriesOf (s : Seen) (x y : ℕ) : Type 0 where
  pub known : y < s.count
  pub is : (t : Value) (g : Valuation) → Stands s t g
      → value_of_variable g y ≡ value.Dir (entries_of (value_of_variable g x))

-- the value has an entry
abbrev pub HasSome : Value → Type 0
HasSome v = (f : List ℕ) × (entry v f ≢ value.Absent)

-- the value has no entry
abbrev pub HasNone : Value → Type 0
HasNone v = (f : List ℕ) → entry v f ≡ value.Absent

-- the value has entries under these names alone
abbrev pub IsFenced : Value → List (List ℕ) → Type 0
IsFenced v names = (f : List ℕ) → ¬ (Contains names f) → entry v f ≡ value.Absent

-- the new store has those pairs of the old one in which the variable x has entries under these names alone, each
-- valuation extended by values for the new variables
pub record Fences (old new : Seen) (x : ℕ) (names : List (List ℕ)) : Type 0 where
  pub more : old.count ≤ new.count
  pub same : new.current ≡ old.current
  pub down : (t : Value) (g : Valuation) → Stands new t g
      → Stands old t (take old.count g) × IsFenced (value_of_variable g x) names
  pub up : (t : Value) (g : Valuation) → Stands old t g → IsFenced (value_of_variable g x) names
      → (h : Valuation) × Stands new t h × (take old.count h ≡ g)

-- the new store has those pairs of the old one in which the variable x has no entry, each valuation extended by values
-- for the new variables
pub record Empties (old new : Seen) (x : ℕ) : Type 0 where
  pub more : old.count ≤ new.count
  pub same : new.current ≡ old.current
  pub down : (t : Value) (g : Valuation) → Stands new t g
      → Stands old t (take old.count g) × HasNone (value_of_variable g x)
  pub up : (t : Value) (g : Valuation) → Stands old t g → HasNone (value_of_variable g x)
      → (h : Valuation) × Stands new t h × (take old.count h ≡ g)
