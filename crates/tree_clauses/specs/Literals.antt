-- What a literal says, and which pairs of trees a clause covers
-- (Jeannerod and Treinen, IJCAR 2018; NotEmpty and Target are this project's own).
use Rattle.std.specs.Prelude.{◌≡◌, ◌≢◌, ℕ, List, [], ◌∷◌, slice_index_or, IsTrue, All, Contains}
use Rattle.feature_trees.specs.declared.value.Value.{Value}
use Rattle.feature_trees.specs.declared.value.Value.TheVariants as value
use Rattle.feature_trees.specs.declared.kind.Kind.TheVariants as kind
use Rattle.feature_trees.specs.Tree.{entry, kind_of}
use Rattle.feature_trees.specs.Kinds.{has}
use Rattle.feature_trees.specs.Sound.{sound}
use Rattle.tree_clauses.specs.declared.clause.Literal.{Literal}
use Rattle.tree_clauses.specs.declared.clause.Literal.TheVariants.{Entry, Kind, Fence, NotEmpty, Similar, Target}
use Rattle.tree_clauses.specs.declared.clause.Clause.{Clause}

-- a valuation gives each variable a value; it is kept as the list of the values, by the variables' numbers
abbrev pub Valuation : Type 0
Valuation = List Value

-- the value of the variable with this number; past the end of the list nothing stands
abbrev pub value_of_variable : Valuation → ℕ → Value
value_of_variable g x = slice_index_or g x value.Absent

-- the value of y has the entries of the value of x under every name but these
abbrev pub AgreesOutside : Value → List (List ℕ) → Value → Type 0
AgreesOutside v names w = (f : List ℕ) → ¬ (Contains names f) → entry v f ≡ entry w f

-- the valuation meets a literal
abbrev pub Meets : Valuation → Literal → Type 0
Meets g (Entry x f y) = value_of_variable g y.0 ≡ entry (value_of_variable g x.0) f
Meets g (Kind x kinds) = IsTrue (has kinds (kind_of (value_of_variable g x.0)))
Meets g (Fence x names) = (f : List ℕ) → ¬ (Contains names f) → entry (value_of_variable g x.0) f ≡ value.Absent
Meets g (NotEmpty x) = (f : List ℕ) × (entry (value_of_variable g x.0) f ≢ value.Absent)
Meets g (Similar y names x) =
    (kind_of (value_of_variable g y.0) ≡ kind.Dir)
    × AgreesOutside (value_of_variable g y.0) names (value_of_variable g x.0)
Meets g (Target x target) = value_of_variable g x.0 ≡ value.Link target

-- the valuation meets all literals
abbrev pub MeetsAll : Valuation → List Literal → Type 0
MeetsAll g [] = Unit {0}
MeetsAll g (literal ∷ literals) = Meets g literal × MeetsAll g literals

-- every value of it is one of the file tree: names are names, and rise in each directory, so that equal trees are
-- equal values
abbrev pub IsSound : Valuation → Type 0
IsSound g = All (λ v. IsTrue (sound v)) g

-- the clause covers a pair of trees: some valuation that gives the one to `start` and the other, a directory, to `now`
-- meets all literals
pub record Covers (clause : Clause) (before after : Value) : Type 0 where
  pub valuation : Valuation
  pub values : IsSound valuation
  pub starts : value_of_variable valuation clause.start.0 ≡ before
  pub ends : value_of_variable valuation clause.now.0 ≡ after
  pub tree : kind_of after ≡ kind.Dir
  pub met : MeetsAll valuation clause.literals

-- the clause covers a tree: it covers it with some tree after it
abbrev pub CoversTree : Clause → Value → Type 0
CoversTree clause before = (after : Value) × Covers clause before after
