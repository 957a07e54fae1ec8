-- The lists of a store with nothing at the start that need not be there, and the start tree that they show.
use Rattle.std.specs.Prelude.{◌≡◌, ◌≢◌, ◌⊎◌, ℕ, ◌<◌, ◌≤◌, List, [], length, Bool, true, false, IsTrue, Contains}
use Rattle.feature_trees.specs.declared.kind.Kind.{Kind}
use Rattle.feature_trees.specs.declared.kind.Kind.TheVariants.{Absent}
use Rattle.feature_trees.specs.Kinds.{has, of}
use Rattle.feature_trees.specs.declared.value.Value.{Value}
use Rattle.feature_trees.specs.declared.value.Value.TheVariants as value
use Rattle.tree_clauses.specs.declared.clause.Literal.TheVariants.{NotEmpty}
use Rattle.tree_clauses.specs.Literals.{Valuation, value_of_variable}
use Rattle.clause_solver.specs.declared.lists.Lists.{Lists}
use Rattle.clause_solver.specs.declared.variable.TheConstants.{MOST_VARIABLES}
use Rattle.clause_solver.specs.declared.variable.Definition.{Definition}
use Rattle.clause_solver.specs.declared.variable.Definition.TheVariants.{Start, Child, Derived, Ensured, Made}
use Rattle.clause_solver.specs.declared.variable.Variable.{Variable}
use Rattle.clause_solver.specs.Variables.{var_at, narrowed, AllFit, Ordered}
use Rattle.clause_solver.specs.Greatest.{IsBest, IsPresentChild, kind_at}
use Rattle.clause_solver.specs.Linked.{AreLinked}
use Rattle.clause_solver.specs.Decided.{AreDecided, AreFilled, AreKindsFitting, IsLeft}
use Rattle.clause_solver.specs.Stands.{Seen, Stands}
use Rattle.clause_solver.specs.Written.{var}

-- whether it is an entry of a place of the start tree
abbrev pub is_entry : Definition → Bool
is_entry Start = false
is_entry (Child p f) = true
is_entry (Derived x f y) = false
is_entry (Ensured x) = false
is_entry (Made m) = false

-- an entry of a place of the start tree is there, by the facts on it it may be missing, and nothing that a variable
-- stands for is there in it
pub record IsSpare (vars : List Variable) (best : List Kind) (x : ℕ) : Type 0 where
  pub place : IsTrue (is_entry (var_at vars x).definition)
  pub may : IsTrue (has (var_at vars x).kinds Absent)
  pub there : kind_at best x ≢ Absent
  pub alone : (m : ℕ) → m < length vars → IsPresentChild vars best x [] m → ⊥

-- some valuation is left by which the variable is absent
abbrev pub IsLeftWithout : List Variable → ℕ → Type 0
IsLeftWithout vars x = IsLeft (narrowed vars x (of Absent))

-- from a number on, without what is spare no valuation is left
abbrev pub AreNeededFrom : ℕ → List Variable → List Kind → Type 0
AreNeededFrom low vars best =
    (i : ℕ) → low ≤ i → i < length vars → IsSpare vars best i → IsLeftWithout vars i → ⊥

-- what stands of the lists of a store while it is open whether a valuation is left: but for that all that `AreDecided`
-- says, and each greatest kind is one of its variable's
pub record AreFitting (a : Lists) : Type 0 where
  pub order : Ordered a.vars
  pub same : length a.best ≡ length a.vars
  pub best : IsBest a.vars a.best
  pub linked : AreLinked a.vars a.kin
  pub small : length a.vars ≤ MOST_VARIABLES
  pub filled : AreFilled a.vars a.filled
  pub fit : AreKindsFitting a.vars a.best

-- the variable can be absent alone
abbrev pub OnlyAbsent : List Variable → ℕ → Type 0
OnlyAbsent vars i = (k : Kind) → IsTrue (has (var_at vars i).kinds k) → k ≡ Absent

-- the facts are as before, and what they say beside is that some variables are absent, which could be so before
pub record IsPlainer (old new : List Variable) : Type 0 where
  pub same : length new ≡ length old
  pub definition : (i : ℕ) → (var_at new i).definition ≡ (var_at old i).definition
  pub less : (i : ℕ) (k : Kind) → IsTrue (has (var_at new i).kinds k) → IsTrue (has (var_at old i).kinds k)
  pub may : (i : ℕ) → IsTrue (has (var_at old i).kinds Absent) → IsTrue (has (var_at new i).kinds Absent)
  pub fits : (g : Valuation) → AllFit new g → AllFit old g
  pub back : (g : Valuation) → AllFit old g
      → ((i : ℕ) → i < length old → OnlyAbsent new i → value_of_variable g i ≡ value.Absent) → AllFit new g

-- the new lists have the facts of the old ones, and from a number on nothing that need not be there
pub record ArePlainestFrom (low : ℕ) (old new : Lists) : Type 0 where
  pub decided : AreDecided new
  pub left : IsTrue new.alive
  pub plainer : IsPlainer old.vars new.vars
  pub needed : AreNeededFrom low new.vars new.best
  pub filled : new.filled ≡ old.filled

-- all that is there by the valuation g is there by h
abbrev pub IsThereIn : Seen → Valuation → Valuation → Type 0
IsThereIn s g h =
    (x : ℕ) → x < s.count → value_of_variable g x ≢ value.Absent → value_of_variable h x ≢ value.Absent

-- by no pair of the store is less there than by this valuation
abbrev pub IsMinimal : Seen → Valuation → Type 0
IsMinimal s g = (t : Value) (h : Valuation) → Stands s t h → IsThereIn s h g → IsThereIn s g h

-- in each pair of the store all that is there by this valuation is there too
abbrev pub IsLeast : Seen → Valuation → Type 0
IsLeast s g = (t : Value) (h : Valuation) → Stands s t h → IsThereIn s g h

-- some variable has to have an entry
abbrev pub AnyFilled : Seen → Type 0
AnyFilled s = (x : ℕ) × Contains s.literals (NotEmpty (var x))

-- this tree is the start of a pair than which none has less there; and what is there by it is there in each pair, unless
-- some variable has to have an entry
pub record IsPlainestTree (s : Seen) (t : Value) : Type 0 where
  pub minimal : (g : Valuation) → Stands s t g → IsMinimal s g
  pub least : ((g : Valuation) → Stands s t g → IsLeast s g) ⊎ AnyFilled s
