-- What is answered of runs and start trees does not depend on how these are said, and how outcomes end is one.
use Rattle.std.specs.Prelude.{◌≡◌, ◌↔◌, ℕ, List, map, Option, Result}
use Rattle.script_names.specs.declared.mark.Mark.{Mark}
use Rattle.feature_trees.specs.declared.value.Value.{Value}
use Rattle.dpkg_scenarios.specs.declared.scenario.Ending.{Ending}
use Rattle.scenario_runs.specs.declared.replayed.Replayed.{Replayed}
use Rattle.scenario_outcomes.specs.declared.outcome.Outcome.{Outcome}
use Rattle.scenario_outcomes.specs.declared.outcome.OutcomesFault.{OutcomesFault}
use Rattle.scenario_outcomes.specs.Outcomes.{Answers, IsExact}

-- the same run from each tree, and the same start trees
pub record AreSame (run other : Value → Option Replayed) (start from : Value → Type 0) : Type 0 where
  pub runs : (tree : Value) → run tree ≡ other tree
  pub starts : (tree : Value) → start tree ↔ from tree

-- so each answer to the one is an answer to the other
abbrev pub AnswersCarryOver :
    (Value → Option Replayed) → (Value → Option Replayed) → (Value → Type 0) → (Value → Type 0) → Type 0
AnswersCarryOver run other start from =
    AreSame run other start from → (limit : ℕ) (result : Result (List Outcome) OutcomesFault)
    → Answers run start limit result
    → Answers other from limit result

-- how each outcome ends, and its trace, in their order
abbrev pub endings_and_traces : List Outcome → List (Ending × List Mark)
endings_and_traces outcomes = map (λ outcome. (outcome.ending, outcome.trace)) outcomes

-- two lists that are exact for the same runs and start trees have the same endings and traces, in the same order
abbrev pub ExactListsEndAlike : (Value → Option Replayed) → (Value → Type 0) → Type 0
ExactListsEndAlike run start =
    (one other : List Outcome) → IsExact run start one → IsExact run start other
    → endings_and_traces one ≡ endings_and_traces other
