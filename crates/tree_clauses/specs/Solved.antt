-- Literals in solved order: each makes one more variable known from known ones, or speaks of known variables alone.
use Rattle.std.specs.Prelude.{◌≡◌, ℕ, ◌↔◌, ◌⊎◌, List, [], ◌∷◌, Contains}
use Rattle.std.specs.declared.cmp.Ordering.TheVariants.{Less}
use Rattle.feature_trees.specs.declared.kind.Kind.TheVariants as kind
use Rattle.feature_trees.specs.declared.kind.Kinds.{Kinds}
use Rattle.feature_trees.specs.Kinds.{of}
use Rattle.feature_trees.specs.Tree.{name_cmp}
use Rattle.tree_clauses.specs.declared.clause.Literal.{Literal}
use Rattle.tree_clauses.specs.declared.clause.Literal.TheVariants.{Entry, Kind, Fence, NotEmpty, Similar, Target}
use Rattle.tree_clauses.specs.declared.clause.Clause.{Clause}

-- every variable of the literal is known
abbrev pub AllKnown : List ℕ → Literal → Type 0
AllKnown known (Entry x f y) = Contains known x.0 × Contains known y.0
AllKnown known (Kind x kinds) = Contains known x.0
AllKnown known (Fence x names) = Contains known x.0
AllKnown known (NotEmpty x) = Contains known x.0
AllKnown known (Similar y names x) = Contains known y.0 × Contains known x.0
AllKnown known (Target x target) = Contains known x.0

-- the names rise in the order of their bytes
abbrev pub Rising : List (List ℕ) → Type 0
Rising [] = Unit {0}
Rising (f ∷ []) = Unit {0}
Rising (f ∷ g ∷ rest) = (name_cmp f g ≡ Less) × Rising (g ∷ rest)

-- the second list has each name of the first once, in the order of their bytes
pub record IsInOrder (names rising : List (List ℕ)) : Type 0 where
  pub rises : Rising rising
  pub same : (f : List ℕ) → Contains names f ↔ Contains rising f

-- the literal is the entry of y under the name, with a known variable as its value
abbrev pub IsEntry : List ℕ → ℕ → List ℕ → Literal → Type 0
IsEntry known y f (Entry x g z) = (x.0 ≡ y) × (g ≡ f) × Contains known z.0
IsEntry known y f (Kind x kinds) = ⊥
IsEntry known y f (Fence x names) = ⊥
IsEntry known y f (NotEmpty x) = ⊥
IsEntry known y f (Similar x names z) = ⊥
IsEntry known y f (Target x target) = ⊥

-- the literals begin with one entry of y for each of the names, in their order, with known variables as values
abbrev pub BeginWithEntries : List ℕ → ℕ → List (List ℕ) → List Literal → Type 0
BeginWithEntries known y [] literals = Unit {0}
BeginWithEntries known y (f ∷ names) [] = ⊥
BeginWithEntries known y (f ∷ names) (literal ∷ literals) =
    IsEntry known y f literal × BeginWithEntries known y names literals

-- the literal is the fence of y that has no name
abbrev pub IsNoFence : ℕ → Literal → Type 0
IsNoFence y (Entry x f z) = ⊥
IsNoFence y (Kind x kinds) = ⊥
IsNoFence y (Fence x names) = (x.0 ≡ y) × (names ≡ [])
IsNoFence y (NotEmpty x) = ⊥
IsNoFence y (Similar x names z) = ⊥
IsNoFence y (Target x target) = ⊥

-- the literals begin with the fence of y that has no name
abbrev pub BeginEmpty : ℕ → List Literal → Type 0
BeginEmpty y [] = ⊥
BeginEmpty y (literal ∷ literals) = IsNoFence y literal

-- nothing, a file, or, before the fence that has no name, the directory without entries
abbrev pub FixesKind : Kinds → ℕ → List Literal → Type 0
FixesKind kinds y literals =
    (kinds ≡ of kind.Absent) ⊎ ((kinds ≡ of kind.Reg) ⊎ ((kinds ≡ of kind.Dir) × BeginEmpty y literals))

-- a directory with the entries of a known variable, but under these names with the known variables that follow at
-- once
abbrev pub Replaces : List ℕ → ℕ → List (List ℕ) → List Literal → Type 0
Replaces known y names literals =
    (rising : List (List ℕ)) × IsInOrder names rising × BeginWithEntries known y rising literals

-- the variable that a literal can make known
abbrev pub subject : Literal → ℕ
subject (Entry x f y) = y.0
subject (Kind y kinds) = y.0
subject (Fence x names) = x.0
subject (NotEmpty x) = x.0
subject (Similar y names x) = y.0
subject (Target y target) = y.0

-- directly before these literals the literal gives its subject one value: an entry of a known variable, nothing, a
-- file, the directory without entries, a directory with some entries of a known one replaced, or a link
abbrev pub Makes : List ℕ → Literal → List Literal → Type 0
Makes known (Entry x f y) literals = Contains known x.0
Makes known (Kind y kinds) literals = FixesKind kinds y.0 literals
Makes known (Fence x names) literals = ⊥
Makes known (NotEmpty x) literals = ⊥
Makes known (Similar y names x) literals = Contains known x.0 × Replaces known y.0 names literals
Makes known (Target y target) literals = Unit {0}

-- from the variables known before, going through the literals, to the variables known after
pub data Solves : List ℕ → List Literal → List ℕ → Type 0 where
  done : {known : List ℕ} → Solves known [] known
  -- one more variable is known
  made : {known after : List ℕ} {literals : List Literal} (literal : Literal) → ¬ (Contains known (subject literal))
      → Makes known literal literals → Solves (subject literal ∷ known) literals after
      → Solves known (literal ∷ literals) after
  -- a fact on known variables
  fact : {known after : List ℕ} {literals : List Literal} (literal : Literal) → AllKnown known literal
      → Solves known literals after → Solves known (literal ∷ literals) after

-- the clause is in solved order: its start is known, and in the end the tree now is. So whoever has a start tree can
-- compute the values one after another, and check the other literals on the way, without search
abbrev pub IsSolved : Clause → Type 0
IsSolved clause = (known : List ℕ) × Solves (clause.start.0 ∷ []) clause.literals known × Contains known clause.now.0
