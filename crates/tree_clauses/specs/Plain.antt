-- Plain cases: those whose literals can be added to a store one by one, each from known variables.
use Rattle.std.specs.Prelude.{◌≡◌, ℕ, zero, suc, ◌+◌, ◌<◌, ◌⊎◌, ◌↔◌, List, [], ◌∷◌, IsTrue, Contains}
use Rattle.feature_trees.specs.declared.kind.Kind.{Kind as AnyKind}
use Rattle.feature_trees.specs.declared.kind.Kind.TheVariants as kind
use Rattle.feature_trees.specs.declared.kind.Kinds.{Kinds}
use Rattle.feature_trees.specs.Kinds.{has, of}
use Rattle.feature_trees.specs.Tree.{kind_of}
use Rattle.tree_clauses.specs.declared.clause.Var.{Var}
use Rattle.tree_clauses.specs.declared.clause.Literal.{Literal}
use Rattle.tree_clauses.specs.declared.clause.Literal.TheVariants.{Entry, Kind, Fence, NotEmpty, Similar, Target}
use Rattle.tree_clauses.specs.Literals.{Valuation, value_of_variable, IsSound, MeetsAll}
use Rattle.tree_clauses.specs.declared.case.Case.{Case}
use Rattle.tree_clauses.specs.declared.clause.Clause.{Clause}
use Rattle.tree_clauses.specs.Solved.{IsSolved}

-- the literal is one of these
abbrev pub IsOneOf : List Literal → Literal → Type 0
IsOneOf [] literal = ⊥
IsOneOf (other ∷ more) literal = (literal ≡ other) ⊎ IsOneOf more literal

-- the kinds are nothing and a directory at most
abbrev pub AreNoneOrDir : Kinds → Type 0
AreNoneOrDir kinds = (k : AnyKind) → IsTrue (has kinds k) → (k ≡ kind.Absent) ⊎ (k ≡ kind.Dir)

-- one of these literals limits the variable to nothing and a directory
abbrev pub IsLimited : List Literal → Var → Type 0
IsLimited before x = (kinds : Kinds) × IsOneOf before (Kind x kinds) × AreNoneOrDir kinds

-- Behind the literals before, and from the variables known there, the literals make further variables known, one
-- after the other, and each says something of known variables alone.
pub data PlainOrder : List Literal → List ℕ → List Literal → List ℕ → Type 0 where
  done : {before : List Literal} {known : List ℕ} → PlainOrder before known [] known
  -- an entry of a known variable makes its variable known
  entry : {before : List Literal} {known after : List ℕ} {literals : List Literal} (x : Var) (f : List ℕ) (y : Var)
      → Contains known x.0 → ¬ (Contains known y.0)
      → PlainOrder (Entry x f y ∷ before) (y.0 ∷ known) literals after
      → PlainOrder before known (Entry x f y ∷ literals) after
  -- that it is nothing, a file, a link or the directory without entries makes a variable known
  absent : {before : List Literal} {known after : List ℕ} {literals : List Literal} (y : Var) → ¬ (Contains known y.0)
      → PlainOrder (Kind y (of kind.Absent) ∷ before) (y.0 ∷ known) literals after
      → PlainOrder before known (Kind y (of kind.Absent) ∷ literals) after
  reg : {before : List Literal} {known after : List ℕ} {literals : List Literal} (y : Var) → ¬ (Contains known y.0)
      → PlainOrder (Kind y (of kind.Reg) ∷ before) (y.0 ∷ known) literals after
      → PlainOrder before known (Kind y (of kind.Reg) ∷ literals) after
  link : {before : List Literal} {known after : List ℕ} {literals : List Literal} (y : Var) (target : List ℕ)
      → ¬ (Contains known y.0) → PlainOrder (Target y target ∷ before) (y.0 ∷ known) literals after
      → PlainOrder before known (Target y target ∷ literals) after
  dir : {before : List Literal} {known after : List ℕ} {literals : List Literal} (y : Var) → ¬ (Contains known y.0)
      → PlainOrder (Fence y [] ∷ Kind y (of kind.Dir) ∷ before) (y.0 ∷ known) literals after
      → PlainOrder before known (Kind y (of kind.Dir) ∷ Fence y [] ∷ literals) after
  -- a directory with the entries of a known variable that is nothing or a directory, but for one name at most
  same : {before : List Literal} {known after : List ℕ} {literals : List Literal} (y x : Var) → Contains known x.0
      → ¬ (Contains known y.0) → IsLimited before x
      → PlainOrder (Similar y [] x ∷ before) (y.0 ∷ known) literals after
      → PlainOrder before known (Similar y [] x ∷ literals) after
  replaced : {before : List Literal} {known after : List ℕ} {literals : List Literal} (y : Var) (f : List ℕ)
      (x z : Var) → Contains known x.0 → ¬ (Contains known y.0) → Contains known z.0 → IsLimited before x
      → PlainOrder (Entry y f z ∷ Similar y (f ∷ []) x ∷ before) (y.0 ∷ known) literals after
      → PlainOrder before known (Similar y (f ∷ []) x ∷ Entry y f z ∷ literals) after
  -- facts on known variables: their kinds, no entry, an entry
  kinds : {before : List Literal} {known after : List ℕ} {literals : List Literal} (x : Var) (kinds : Kinds)
      → Contains known x.0 → PlainOrder (Kind x kinds ∷ before) known literals after
      → PlainOrder before known (Kind x kinds ∷ literals) after
  empty : {before : List Literal} {known after : List ℕ} {literals : List Literal} (x : Var) → Contains known x.0
      → PlainOrder (Fence x [] ∷ before) known literals after → PlainOrder before known (Fence x [] ∷ literals) after
  filled : {before : List Literal} {known after : List ℕ} {literals : List Literal} (x : Var) → Contains known x.0
      → PlainOrder (NotEmpty x ∷ before) known literals after → PlainOrder before known (NotEmpty x ∷ literals) after

-- the first so many numbers, from the last on
abbrev pub numbers_below : ℕ → List ℕ
numbers_below zero = []
numbers_below (suc n) = n ∷ numbers_below n

-- The case is plain from its first so many variables, which are given: its variables are these and the `locals` many
-- behind them, all known in the end, and the root is a directory wherever all literals are met.
pub record IsPlainFrom (given : ℕ) (made : Case) : Type 0 where
  pub known : List ℕ
  pub order : PlainOrder [] (numbers_below given) made.literals known
  pub variables : (i : ℕ) → Contains known i ↔ (i < given + made.locals)
  pub root : made.root.0 < given + made.locals
  pub dir : (g : Valuation) → IsSound g → MeetsAll g made.literals
      → kind_of (value_of_variable g made.root.0) ≡ kind.Dir

-- the case of an act is plain: variable 0, the tree before, is given
abbrev pub IsPlain : Case → Type 0
IsPlain made = IsPlainFrom 1 made

-- a back case is plain: variable 0, the tree before, and variable 1, the kept tree, are given
abbrev pub IsPlainBack : Case → Type 0
IsPlainBack made = IsPlainFrom 2 made

-- a case as a clause, from the tree before to the tree after
abbrev pub case_clause : Case → Clause
case_clause made = record { literals = made.literals; start = record { 0 = 0 }; now = made.root }

-- a plain case is in solved order
abbrev pub PlainCasesAreSolved : Type 0
PlainCasesAreSolved = (made : Case) → IsPlain made → IsSolved (case_clause made)
