-- The places of the start tree that are shown with an entry of a new name.
use Rattle.std.specs.Prelude.{◌≡◌, ℕ, ◌<◌, List, [], length, slice_index_or, IsTrue, Bool, false, ◌&&◌}
use Rattle.feature_trees.specs.declared.kind.Kind.{Kind}
use Rattle.feature_trees.specs.declared.value.Value.{Value}
use Rattle.clause_solver.specs.declared.variable.Definition.TheVariants.{Derived, Ensured}
use Rattle.clause_solver.specs.declared.variable.Variable.{Variable}
use Rattle.clause_solver.specs.Variables.{var_at, is_node}
use Rattle.clause_solver.specs.Greatest.{unfenced, unfenced_if, kind_at, HasEntryOutside}
use Rattle.clause_solver.specs.Grown.{extra, grown}

-- the mark at a place
abbrev pub mark_at : List Bool → ℕ → Bool
mark_at marks n = slice_index_or marks n false

-- whether the place is marked, and has no fence
abbrev pub opened : List Variable → List Bool → ℕ → Bool
opened vars marks n = mark_at marks n && unfenced vars n

-- the place of the start tree that the variable is made from
pub data IsRoot (vars : List Variable) : ℕ → ℕ → Type 0 where
  itself : {n : ℕ} → IsTrue (is_node (var_at vars n).definition) → IsRoot vars n n
  derived : {n r : ℕ} (x : ℕ) (f : List ℕ) (y : ℕ) → (var_at vars n).definition ≡ Derived x f y → IsRoot vars x r
      → IsRoot vars n r
  ensured : {n r : ℕ} (x : ℕ) → (var_at vars n).definition ≡ Ensured x → IsRoot vars x r → IsRoot vars n r

-- the variable i is made from the place n and has to have an entry, and none is there
pub record IsOpenedFor (vars : List Variable) (best : List Kind) (n i : ℕ) : Type 0 where
  pub known : i < length vars
  pub root : IsRoot vars i n
  pub filled : IsTrue (var_at vars i).not_empty
  pub none : ¬ (HasEntryOutside vars best (unfenced_if vars false) i [])

-- each marked place is so for some variable
abbrev pub AreReasoned : List Variable → List Kind → List Bool → Type 0
AreReasoned vars best marks = (n : ℕ) → IsTrue (mark_at marks n) → (i : ℕ) × IsOpenedFor vars best n i

-- a place of its greatest kind before any entry is known, with one entry of a new name where it is opened
abbrev pub without_children : List Variable → List Kind → List Bool → List ℕ → ℕ → Value
without_children vars best marks z n = grown (kind_at best n) (var_at vars n).target (extra (opened vars marks n) z)
