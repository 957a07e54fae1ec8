-- The outcome of one path, whatever clause and tree it was made with, stands among outcomes that are the answer: the
-- others are those that their paths could be told as. It is a lemma, for the proofs of the crates above, since it
-- speaks of all predicates of trees, as no clause can.
use Rattle.std.proofs.Common.{◌≡◌, ℕ, zero, suc, ◌+◌, List, [], ◌∷◌, Option, Some, slice_get, refl, sym, subst, arith}
use Rattle.feature_trees.specs.declared.value.Value.{Value}
use Rattle.case_paths.specs.Paths.{IsAt, AllAlive, states}
use Rattle.scenario_runs.specs.declared.replayed.Replayed.{Replayed}
use Rattle.scenario_outcomes.specs.declared.outcome.Outcome.{Outcome}
use Rattle.scenario_outcomes.specs.OutcomeOf.{Path, IsOutcomeOf, AreOutcomes, ArePaths}
use Rattle.scenario_outcomes.specs.Outcomes.{IsExact}
use Rattle.scenario_outcomes.proofs.Answering.{outcome_of, is_outcome, told}

-- outcomes of these paths, the first of which stands at a place, with this one among them
record WithOne (place at : ℕ) (paths : List Path) (outcome : Outcome) : Type 0 where
  outcomes : List Outcome
  are : AreOutcomes place paths outcomes
  there : slice_get outcomes at ≡ Some outcome

with_one : (place at : ℕ) (paths : List Path) (path : Path) (outcome : Outcome) → AllAlive (states paths)
    → IsAt paths at path → IsOutcomeOf (place + at) path outcome → WithOne place at paths outcome
with_one place at [] path outcome alive there is = absurd there
with_one place zero (x ∷ xs) path outcome alive there is =
    let P : Path → Type 0 = λ y. IsOutcomeOf (place + 0) y outcome in
    let Q : ℕ → Type 0 = λ n. IsOutcomeOf n x outcome in
    let first : Q place = subst Q (omega arith) (subst P (sym there) is) in
    let rest = told (suc place) xs alive.1 in
    record { outcomes = outcome ∷ rest.outcomes; are = (first, rest.are); there = refl }
with_one place (suc at) (x ∷ xs) path outcome alive there is =
    let Q : ℕ → Type 0 = λ n. IsOutcomeOf n path outcome in
    let rest = with_one (suc place) at xs path outcome alive.1 there (subst Q (omega arith) is) in
    record {
      outcomes = outcome_of place x alive.0 ∷ rest.outcomes;
      are = (is_outcome place x alive.0, rest.are);
      there = rest.there;
    }

-- outcomes that are exact, with this one at a place
pub record StandsAt (run : Value → Option Replayed) (start : Value → Type 0) (place : ℕ) (outcome : Outcome) : Type 0
  where
    pub outcomes : List Outcome
    pub exact : IsExact run start outcomes
    pub at : slice_get outcomes place ≡ Some outcome

pub one_stands : (run : Value → Option Replayed) (start : Value → Type 0) (limit : ℕ) (paths : List Path)
    → ArePaths run start limit paths → (place : ℕ) (path : Path) (outcome : Outcome) → IsAt paths place path
    → IsOutcomeOf place path outcome → StandsAt run start place outcome
one_stands run start limit paths are place path outcome there is =
    let Q : ℕ → Type 0 = λ n. IsOutcomeOf n path outcome in
    let all = with_one 0 place paths path outcome are.alive there (subst Q (omega arith) is) in
    record { outcomes = all.outcomes; exact = (are.told all.outcomes all.are).0; at = all.there }
