-- The endings of the outcomes, in their order, where nothing else is told of them.
use Rattle.std.specs.Prelude.{◌≡◌, ℕ, List, map, Option, Result, Ok, Err}
use Rattle.feature_trees.specs.declared.value.Value.{Value}
use Rattle.dpkg_scenarios.specs.declared.scenario.Ending.{Ending}
use Rattle.scenario_runs.specs.declared.replayed.Replayed.{Replayed}
use Rattle.scenario_outcomes.specs.declared.outcome.Outcome.{Outcome}
use Rattle.scenario_outcomes.specs.declared.outcome.OutcomesFault.{OutcomesFault}
use Rattle.scenario_outcomes.specs.Outcomes.{Answers}

-- the endings of outcomes
abbrev pub endings_of : List Outcome → List Ending
endings_of outcomes = map (λ outcome. outcome.ending) outcomes

-- there are outcomes that are the answer, and these are their endings
pub record AreEndings (run : Value → Option Replayed) (start : Value → Type 0) (limit : ℕ) (endings : List Ending)
    : Type 0 where
  pub outcomes : List Outcome
  pub answers : Answers run start limit (Ok outcomes)
  pub are : endings_of outcomes ≡ endings

-- The answer: the endings of the outcomes; and a fault exactly as for the outcomes themselves.
abbrev pub EndingsAnswer : (Value → Option Replayed) → (Value → Type 0) → ℕ → Result (List Ending) OutcomesFault
    → Type 0
EndingsAnswer run start limit (Ok endings) = AreEndings run start limit endings
EndingsAnswer run start limit (Err fault) = Answers run start limit (Err fault)
