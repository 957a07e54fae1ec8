-- How a variable is left with entries under some names alone, or under none: what that comes to along the definitions,
-- down to a place of the start tree.
use Rattle.std.specs.Prelude.{◌≡◌, ℕ, ◌<◌, List, [], ◌∷◌, ◌++◌, length, Option, None, Some, IsTrue, slice_set, filter}
use Rattle.std.specs.Prelude.{◌≤◌, take, if◌then◌else◌}
use Rattle.feature_trees.specs.declared.kind.Kind.{Kind}
use Rattle.feature_trees.specs.declared.kind.Kind.TheVariants as kind
use Rattle.feature_trees.specs.declared.value.Value.{Value}
use Rattle.feature_trees.specs.declared.value.Value.TheVariants as value
use Rattle.feature_trees.specs.Kinds.{has, of}
use Rattle.feature_trees.specs.Tree.{entry}
use Rattle.tree_clauses.specs.Literals.{Valuation, value_of_variable, IsSound}
use Rattle.clause_solver.specs.declared.variable.Variable.{Variable}
use Rattle.clause_solver.specs.Variables.{var_at, Listed, member, allowed, narrowed, is_node, AllFit, Ordered, IsChild}
use Rattle.clause_solver.specs.Variables.{OnlyDir}

-- the value has no entry under another name than these
abbrev pub HasNoneOutside : Value → List (List ℕ) → Type 0
HasNoneOutside v names = (f : List ℕ) → ¬ (Listed f names) → entry v f ≡ value.Absent

-- the same variables, with kinds that are narrowed further
pub record IsNarrower (old new : List Variable) : Type 0 where
  pub long : length new ≡ length old
  pub order : Ordered new
  pub definition : (i : ℕ) → (var_at new i).definition ≡ (var_at old i).definition
  pub fits : (g : Valuation) → AllFit new g → AllFit old g
  pub kinds : (i : ℕ) (k : Kind) → IsTrue (has (var_at new i).kinds k) → IsTrue (has (var_at old i).kinds k)

-- that x has no entry outside a fence comes to this: the narrower variables, and no entry of `here` under another name
-- than these
pub record ComesTo (old : List Variable) (x : ℕ) (fence : List (List ℕ)) (new : List Variable) (here : ℕ)
    (names : List (List ℕ)) : Type 0 where
  pub narrower : IsNarrower old new
  pub inside : here < length new
  pub there : (g : Valuation) → IsSound g → AllFit old g → HasNoneOutside (value_of_variable g x) fence
      → AllFit new g × HasNoneOutside (value_of_variable g here) names
  pub back : (g : Valuation) → IsSound g → AllFit new g → HasNoneOutside (value_of_variable g here) names
      → HasNoneOutside (value_of_variable g x) fence

-- that x has no entry outside a fence comes to the narrower variables alone
pub record IsEmptied (old : List Variable) (x : ℕ) (fence : List (List ℕ)) (new : List Variable) : Type 0 where
  pub narrower : IsNarrower old new
  pub there : (g : Valuation) → IsSound g → AllFit old g → HasNoneOutside (value_of_variable g x) fence
      → AllFit new g
  pub back : (g : Valuation) → IsSound g → AllFit new g → HasNoneOutside (value_of_variable g x) fence

-- the walk ends at a place of the start tree, or at a made value
abbrev pub EndsAt : List Variable → ℕ → List (List ℕ) → List Variable → List (List ℕ) → Option ℕ → Type 0
EndsAt old x fence new names None = IsEmptied old x fence new
EndsAt old x fence new names (Some n) =
    ComesTo old x fence new n names × IsTrue (is_node (var_at new n).definition)

-- past an entry that is replaced: where its name is not among these, nothing stands there
abbrev pub vars_past : List Variable → List (List ℕ) → List ℕ → ℕ → List Variable
vars_past vars names f y = if member f names then vars else narrowed vars y (of kind.Absent)

-- past an entry that is replaced: its name is among the names from then on
abbrev pub names_past : List (List ℕ) → List ℕ → List (List ℕ)
names_past names f = if member f names then names else (names ++ f ∷ [])

-- the names that a fence lets in
abbrev pub let_in : Option (List (List ℕ)) → List (List ℕ) → List (List ℕ)
let_in fence names = filter (allowed fence) names

-- a place that may have entries under these names alone
abbrev pub fenced : List Variable → ℕ → List (List ℕ) → List Variable
fenced vars n names =
    slice_set vars n (record (var_at vars n) { fence = Some (let_in (var_at vars n).fence names) })

-- the old variables, and further ones whose values they decide
pub record HasMore (old new : List Variable) : Type 0 where
  pub more : length old ≤ length new
  pub old_at : (i : ℕ) → i < length old → var_at new i ≡ var_at old i
  pub down : (g : Valuation) → length g ≡ length new → AllFit new g → AllFit old (take (length old) g)
  pub up : (g : Valuation) → length g ≡ length old → IsSound g → AllFit old g
      → (h : Valuation) × (length h ≡ length new) × IsSound h × AllFit new h × (take (length old) h ≡ g)

-- the entry f of the place n has its variable
abbrev pub HasItsVariable : List Variable → ℕ → List ℕ → Type 0
HasItsVariable vars n f = (m : ℕ) × IsChild vars n f m

-- the variables, and further ones, where the place n has entries under these names alone
pub record IsClosed (old : List Variable) (n : ℕ) (names : List (List ℕ)) (new : List Variable) : Type 0 where
  pub more : length old ≤ length new
  pub first : OnlyDir old 0 → OnlyDir new 0
  pub down : (g : Valuation) → length g ≡ length new → AllFit new g
      → AllFit old (take (length old) g) × HasNoneOutside (value_of_variable (take (length old) g) n) names
  pub up : (g : Valuation) → length g ≡ length old → IsSound g → AllFit old g
      → HasNoneOutside (value_of_variable g n) names
      → (h : Valuation) × (length h ≡ length new) × IsSound h × AllFit new h × (take (length old) h ≡ g)

-- the variables, and further ones, where x has no entry outside a fence
pub record IsWithin (old : List Variable) (x : ℕ) (fence : List (List ℕ)) (new : List Variable) : Type 0 where
  pub more : length old ≤ length new
  pub first : OnlyDir old 0 → OnlyDir new 0
  pub down : (g : Valuation) → length g ≡ length new → IsSound g → AllFit new g
      → AllFit old (take (length old) g) × HasNoneOutside (value_of_variable (take (length old) g) x) fence
  pub up : (g : Valuation) → length g ≡ length old → IsSound g → AllFit old g
      → HasNoneOutside (value_of_variable g x) fence
      → (h : Valuation) × (length h ≡ length new) × IsSound h × AllFit new h × (take (length old) h ≡ g)
