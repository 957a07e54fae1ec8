-- What holds of the tables as a whole.
use Rattle.std.specs.Prelude.{◌≡◌, ℕ, ◌<◌, ◌≤◌, Bool, true, false, List, [], ◌∷◌, replicate, length, Option, Some, None}
use Rattle.std.specs.Prelude.{if◌then◌else◌}
use Rattle.dpkg_scenarios.specs.declared.scenario.Scenario.{Scenario}
use Rattle.dpkg_scenarios.specs.declared.scenario.State.{State}
use Rattle.dpkg_scenarios.specs.declared.scenario.State.TheVariants.{ConfigFiles, NotInstalled}
use Rattle.dpkg_scenarios.specs.declared.scenario.Ending.TheVariants.{Done}
use Rattle.dpkg_scenarios.specs.declared.scenario.StepNext.{StepNext}
use Rattle.dpkg_scenarios.specs.declared.scenario.StepNext.TheVariants.{Go, Stop}
use Rattle.dpkg_scenarios.specs.Scenarios.{table, columns_of}
use Rattle.dpkg_scenarios.specs.Steps.{IsStep, next_of, turn_of}

-- what follows a step is a step of a later turn, or the scenario's end: so every walk ends
abbrev pub GoesForward : Type 0
GoesForward = (scenario : Scenario) (n m : ℕ) (ok plain : Bool)
    → next_of scenario n ok plain ≡ Some (Go m) → (turn_of scenario n < turn_of scenario m) × IsStep scenario m

-- there are no more turns than steps
abbrev pub TurnsAreFew : Type 0
TurnsAreFew = (scenario : Scenario) (n : ℕ) → turn_of scenario n ≤ length (table scenario)

-- what follows, where there is such a step
abbrev pub or_stays : Option StepNext → StepNext → StepNext
or_stays None here = here
or_stays (Some next) here = next

-- where a scenario is after its steps ended so, from a step or an end on: true is success
abbrev pub walk : Scenario → Bool → StepNext → List Bool → StepNext
walk scenario plain (Stop ending) oks = Stop ending
walk scenario plain (Go n) [] = Go n
walk scenario plain (Go n) (ok ∷ oks) = walk scenario plain (or_stays (next_of scenario n ok plain) (Go n)) oks

-- the state of a package that is brought to one, by whether it has neither a configuration file nor a postrm: such a
-- one is not left in Config-Files, but Not-Installed
abbrev pub left_in : State → Bool → State
left_in ConfigFiles plain = if plain then NotInstalled else ConfigFiles
left_in state plain = state

-- where every step succeeds, the scenario is done, in the state that it is to bring the package to
abbrev pub Succeeds : Type 0
Succeeds = (scenario : Scenario) (plain : Bool)
    → walk scenario plain (Go 1) (replicate (length (table scenario)) true)
    ≡ Stop (Done (left_in (columns_of scenario).aim plain))

-- every step is reached from the first one
abbrev pub IsReached : Scenario → ℕ → Type 0
IsReached scenario n = (oks : List Bool) × (walk scenario false (Go 1) oks ≡ Go n)

-- so of each step of each scenario
abbrev pub ReachesEach : Type 0
ReachesEach = (scenario : Scenario) (n : ℕ) → IsStep scenario n → IsReached scenario n
