-- What follows a step, as the code of a step says it.
use Rattle.std.specs.Prelude.{◌≡◌, ℕ, ◌<◌, Some}
use Rattle.dpkg_scenarios.specs.declared.scenario.Scenario.{Scenario}
use Rattle.dpkg_scenarios.specs.declared.scenario.StepNext.{StepNext}
use Rattle.dpkg_scenarios.specs.declared.scenario.StepNext.TheVariants.{Go, Stop}
use Rattle.dpkg_scenarios.specs.Scenarios.{Step}
use Rattle.dpkg_scenarios.specs.Steps.{IsStep, line, turn_of}
use Rattle.scenario_runs.specs.declared.course.Course.{Course}
use Rattle.scenario_runs.specs.declared.course.Worked.{Worked}
use Rattle.scenario_runs.specs.Runs.{Plan, words_in, do_work}

-- a step of the scenario of a later turn, or the end
abbrev pub IsLater : Scenario → ℕ → StepNext → Type 0
IsLater scenario n (Go m) = (turn_of scenario n < turn_of scenario m) × IsStep scenario m
IsLater scenario n (Stop ending) = Unit {0}

-- what the work of a step comes to, by the step's line
pub record Works (plan : Plan) (n : ℕ) (course : Course) (worked : Worked) : Type 0 where
  pub step : Step
  pub is_line : line plan.scenario n ≡ Some step
  pub is_work : worked ≡ do_work plan n step.work (words_in plan step) course
