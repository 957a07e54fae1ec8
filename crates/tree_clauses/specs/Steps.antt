-- Going through the literals of a clause with a value for each known variable.
use Rattle.std.specs.Prelude.{◌≡◌, ◌≢◌, ℕ, ◌↔◌, IsTrue, Bool, List, ◌∷◌, Option, Some, None, Contains}
use Rattle.feature_trees.specs.declared.value.Value.{Value}
use Rattle.tree_clauses.specs.declared.clause.Literal.{Literal}
use Rattle.tree_clauses.specs.Literals.{Valuation, value_of_variable, Meets, MeetsAll, IsSound}
use Rattle.tree_clauses.specs.Solved.{AllKnown, Makes, subject, Solves}

-- the values of the known variables, by their numbers
abbrev pub Known : Type 0
Known = ℕ → Option Value

-- there is a value
abbrev pub IsThere : Option Value → Type 0
IsThere None = ⊥
IsThere (Some v) = Unit {0}

-- these are the numbers of the known variables
abbrev pub AreKnown : List ℕ → Known → Type 0
AreKnown numbers known = (x : ℕ) → Contains numbers x ↔ IsThere (known x)

-- the valuation gives the known variables their values
abbrev pub Agrees : Known → Valuation → Type 0
Agrees known g = (x : ℕ) (v : Value) → known x ≡ Some v → value_of_variable g x ≡ v

-- some valuation of the file tree does
abbrev pub CanBe : Known → Type 0
CanBe known = (g : Valuation) × IsSound g × Agrees known g

-- one variable has this value now, and the others are as before
pub record Gives (old new : Known) (y : ℕ) (v : Value) : Type 0 where
  pub here : new y ≡ Some v
  pub other : (x : ℕ) → x ≢ y → new x ≡ old x

-- from these known variables on the literals are in solved order, and make the variable known
abbrev pub SolvedTo : List ℕ → List Literal → ℕ → Type 0
SolvedTo numbers literals now = (after : List ℕ) × Solves numbers literals after × Contains after now

-- whether a literal holds, wherever the known variables have their values; nothing where it has an unknown one
abbrev pub FactIs : Known → Literal → Option Bool → Type 0
FactIs known literal None = (numbers : List ℕ) → AreKnown numbers known → ¬ (AllKnown numbers literal)
FactIs known literal (Some holds) =
    ((numbers : List ℕ) → AreKnown numbers known → AllKnown numbers literal)
    × ((g : Valuation) → IsSound g → Agrees known g → IsTrue holds ↔ Meets g literal)

-- the value that a literal, directly before others, gives its subject; nothing where it gives none
abbrev pub MadeIs : Known → Literal → List Literal → Option Value → Type 0
MadeIs known literal literals None = (numbers : List ℕ) → AreKnown numbers known → ¬ (Makes numbers literal literals)
MadeIs known literal literals (Some v) =
    ((numbers : List ℕ) → AreKnown numbers known → Makes numbers literal literals)
    × ((g : Valuation) → IsSound g → Agrees known g → Meets g literal → MeetsAll g literals
    → value_of_variable g (subject literal) ≡ v)
    × ((g : Valuation) → IsSound g → Agrees known g → value_of_variable g (subject literal) ≡ v → Meets g literal)

-- one literal is passed: the others are in solved order, and are met, just as all were, where it holds
pub record Passes (old new : Known) (literal : Literal) (literals : List Literal) (holds : Bool) : Type 0 where
  pub order : (numbers : List ℕ) → AreKnown numbers old
      → (more : List ℕ) × AreKnown more new
      × ((now : ℕ) → SolvedTo numbers (literal ∷ literals) now ↔ SolvedTo more literals now)
  pub stays : CanBe old → CanBe new
  pub met : (g : Valuation) → IsSound g
      → (Agrees old g × MeetsAll g (literal ∷ literals)) ↔ (Agrees new g × MeetsAll g literals × IsTrue holds)

-- what passing a literal answers; nothing where the literals are in no solved order from there on
abbrev pub StepIs : Known → Known → Literal → List Literal → Option Bool → Type 0
StepIs old new literal literals None =
    (numbers : List ℕ) (now : ℕ) → AreKnown numbers old → ¬ (SolvedTo numbers (literal ∷ literals) now)
StepIs old new literal literals (Some holds) = Passes old new literal literals holds
