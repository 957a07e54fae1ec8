-- A store in the making: the variables of a store, which literals of a case narrow and add to.
use Rattle.std.specs.Prelude.{◌≡◌, ◌≢◌, ℕ, ◌+◌, ◌<◌, ◌≤◌, ◌↔◌, Option, Some, None, List, length, take, Contains}
use Rattle.std.specs.Ordering.{nat_cmp}
use Rattle.std.specs.BTreeMap.{get}
use Rattle.tree_clauses.specs.declared.case.Case.{Case}
use Rattle.tree_clauses.specs.declared.clause.Literal.{Literal}
use Rattle.tree_clauses.specs.declared.clause.Var.{Var}
use Rattle.tree_clauses.specs.Literals.{Valuation, value_of_variable, Meets, MeetsAll, IsSound}
use Rattle.tree_clauses.specs.Plain.{PlainOrder}
use Rattle.clause_solver.specs.declared.drafts.Draft.{Draft}
use Rattle.clause_solver.specs.declared.variable.Definition.{Definition}
use Rattle.clause_solver.specs.declared.variable.Variable.{Variable}
use Rattle.clause_solver.specs.Adds.{given_at, Begins}
use Rattle.clause_solver.specs.Decided.{AreDecided}
use Rattle.clause_solver.specs.Variables.{AllFit, OnlyDir, defined}

-- the store's variables that variables of a case stand for
abbrev pub Places : Type 0
Places = ℕ → Option ℕ

-- the store's variable that each variable of a case stands for, as the draft keeps it
abbrev pub place_in : Draft → Places
place_in draft x = get nat_cmp draft.places x

-- there is one
abbrev pub IsPlaced : Option ℕ → Type 0
IsPlaced None = ⊥
IsPlaced (Some n) = Unit {0}

-- a valuation of the case's variables gives those that have a place the values that the store's have
abbrev pub Agrees : Places → Valuation → Valuation → Type 0
Agrees places g h = (x n : ℕ) → places x ≡ Some n → value_of_variable h x ≡ value_of_variable g n

-- the given variables have these places, in their order, and no other variable has one
pub record AreGiven (given : List Var) (places : Places) : Type 0 where
  pub placed : (i : ℕ) → i < length given → places i ≡ Some (given_at given i)
  pub others : (i : ℕ) → length given ≤ i → places i ≡ None

-- the new variables leave the valuations of the old ones that meet a condition, each with values for further variables
pub record Narrows (old new : List Variable) (P : Valuation → Type 0) : Type 0 where
  pub more : length old ≤ length new
  pub first : OnlyDir old 0 → OnlyDir new 0
  pub down : (g : Valuation) → length g ≡ length new → IsSound g → AllFit new g
      → AllFit old (take (length old) g) × P (take (length old) g)
  pub up : (g : Valuation) → length g ≡ length old → IsSound g → AllFit old g → P g
      → (h : Valuation) × (length h ≡ length new) × IsSound h × AllFit new h × (take (length old) h ≡ g)

-- the lists stand, and the places are variables of them
pub record IsSteady (draft : Draft) : Type 0 where
  pub decided : AreDecided draft.lists
  pub inside : (x n : ℕ) → place_in draft x ≡ Some n → n < length draft.lists.vars

-- one literal on variables that have a place is left to hold, which is `here` on the store's variables
pub record Says (old new : Draft) (literal : Literal) : Type 0 where
  pub here : Literal
  pub same : new.places ≡ old.places
  pub steady : IsSteady new
  pub narrows : Narrows old.lists.vars new.lists.vars (λ g. Meets g here)
  pub is : (g h : Valuation) → Agrees (place_in old) g h → Meets g here ↔ Meets h literal

-- the case's variable v has the place y now, and all else is as before
pub record IsPut (old new : Draft) (v y : ℕ) : Type 0 where
  pub lists : new.lists ≡ old.lists
  pub here : place_in new v ≡ Some y
  pub other : (x : ℕ) → x ≢ v → place_in new x ≡ place_in old x

-- the case's variable v has a place, with the value that a definition gives from the store's variables
pub record Adds (old new : Draft) (v : ℕ) (d : Definition) : Type 0 where
  pub place : ℕ
  pub here : place_in new v ≡ Some place
  pub other : (x : ℕ) → x ≢ v → place_in new x ≡ place_in old x
  pub steady : IsSteady new
  pub keeps : Narrows old.lists.vars new.lists.vars (λ g. Unit {0})
  pub is : (g : Valuation) → length g ≡ length new.lists.vars → IsSound g → AllFit new.lists.vars g
      → value_of_variable g place ≡ defined g d

-- the case's variable v has a place, with the value that a definition gives from the case's variables
pub record Makes (old new : Draft) (v : ℕ) (d : Definition) : Type 0 where
  pub place : ℕ
  pub here : place_in new v ≡ Some place
  pub other : (x : ℕ) → x ≢ v → place_in new x ≡ place_in old x
  pub steady : IsSteady new
  pub keeps : Narrows old.lists.vars new.lists.vars (λ g. Unit {0})
  pub is : (g h : Valuation) → length g ≡ length new.lists.vars → IsSound g → AllFit new.lists.vars g
      → Agrees (place_in old) g h → value_of_variable g place ≡ defined h d

-- what literals of a case leave of the old variables, of which these stand for the case's given ones
pub record Leaves (old : List Variable) (given : List Var) (literals : List Literal) (places : Places)
    (new : List Variable) : Type 0 where
  pub more : length old ≤ length new
  pub first : OnlyDir old 0 → OnlyDir new 0
  pub start : (i : ℕ) → i < length given → places i ≡ Some (given_at given i)
  pub down : (g : Valuation) → length g ≡ length new → IsSound g → AllFit new g
      → AllFit old (take (length old) g)
      × ((h : Valuation) → IsSound h → Agrees places g h → MeetsAll h literals)
  pub up : (g h : Valuation) → length g ≡ length old → IsSound g → AllFit old g → IsSound h
      → Begins given g h → MeetsAll h literals
      → (k : Valuation) × (length k ≡ length new) × IsSound k × AllFit new k × (take (length old) k ≡ g)
      × Agrees places k h

-- the draft is what the literals of a case, but for the rest of them, leave; in the end the variables of `after` have a
-- place
pub record Goes (old : List Variable) (given : List Var) (literals : List Literal) (after : List ℕ)
    (rest : List Literal) (draft : Draft) : Type 0 where
  pub before : List Literal
  pub known : List ℕ
  pub order : PlainOrder before known rest after
  pub split : (h : Valuation) → MeetsAll h literals ↔ (MeetsAll h before × MeetsAll h rest)
  pub placed : (x : ℕ) → Contains known x ↔ IsPlaced (place_in draft x)
  pub leaves : Leaves old given before (place_in draft) draft.lists.vars
  pub steady : IsSteady draft

-- these literals can be what is left of a case, of which the draft has the others
abbrev pub CanGo : Draft → List Literal → Type 0
CanGo draft rest =
    (old : List Variable) × (given : List Var) × (literals : List Literal) × (after : List ℕ)
    × Goes old given literals after rest draft

-- the new draft goes on with other literals, whatever the old one came from
abbrev pub GoesOn : Draft → List Literal → Draft → List Literal → Type 0
GoesOn old_draft rest new_draft more =
    (old : List Variable) (given : List Var) (literals : List Literal) (after : List ℕ)
    → Goes old given literals after rest old_draft → Goes old given literals after more new_draft

-- the draft is what the case leaves of the old variables, of which these stand for its given ones, and each variable of
-- the case has a place
pub record IsDrafted (old : List Variable) (given : List Var) (made : Case) (draft : Draft) : Type 0 where
  pub leaves : Leaves old given made.literals (place_in draft) draft.lists.vars
  pub placed : (x : ℕ) → IsPlaced (place_in draft x) ↔ (x < length given + made.locals)
  pub steady : IsSteady draft
