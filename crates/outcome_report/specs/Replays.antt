-- Outcomes that runs end as, from the trees that they show.
use Rattle.std.specs.Prelude.{◌≡◌, List, [], ◌∷◌, Option, Some}
use Rattle.feature_trees.specs.declared.kind.Kind.TheVariants.{Dir}
use Rattle.feature_trees.specs.declared.value.Value.{Value}
use Rattle.feature_trees.specs.Tree.{kind_of}
use Rattle.scenario_runs.specs.declared.replayed.Replayed.{Replayed}
use Rattle.scenario_outcomes.specs.declared.outcome.Outcome.{Outcome}

-- the outcome shows a directory, and the run from there, whatever it is, ends as the outcome says
pub record Replays (run : Value → Option Replayed) (outcome : Outcome) : Type 0 where
  pub dir : kind_of outcome.shown ≡ Dir
  pub ending : (replayed : Replayed) → run outcome.shown ≡ Some replayed → replayed.ending ≡ outcome.ending
  pub trace : (replayed : Replayed) → run outcome.shown ≡ Some replayed → replayed.trace ≡ outcome.trace

-- each of them does
abbrev pub AllReplay : (Value → Option Replayed) → List Outcome → Type 0
AllReplay run [] = Unit {0}
AllReplay run (outcome ∷ outcomes) = Replays run outcome × AllReplay run outcomes
