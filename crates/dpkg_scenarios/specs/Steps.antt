-- What the table says of a step: what is done in it, the words of its call, and what follows.
use Rattle.std.specs.Prelude.{ℕ, suc, ◌≤◌, Bool, ◌==◌, List, [], ◌∷◌, length, Option, if◌then◌else◌}
use Rattle.std.specs.List.{find}
use Rattle.std.specs.Option.{option_map}
use Rattle.dpkg_scenarios.specs.declared.scenario.Scenario.{Scenario}
use Rattle.dpkg_scenarios.specs.declared.scenario.Scenario.TheVariants as scenario
use Rattle.dpkg_scenarios.specs.declared.scenario.StepWork.{StepWork}
use Rattle.dpkg_scenarios.specs.declared.scenario.StepNext.{StepNext}
use Rattle.dpkg_scenarios.specs.declared.said.Said.{Said}
use Rattle.dpkg_scenarios.specs.Scenarios.{Step, Follows, table}

-- a step of the scenario, by its number
abbrev pub IsStep : Scenario → ℕ → Type 0
IsStep scenario n = (1 ≤ n) × (n ≤ length (table scenario))

-- the line of the table with this number
abbrev pub line : Scenario → ℕ → Option Step
line scenario n = find (λ step. step.number == n) (table scenario)

-- what is done
abbrev pub work_of : Scenario → ℕ → Option StepWork
work_of scenario n = option_map (λ step. step.work) (line scenario n)

-- the words of the call, from what is said of the packages
abbrev pub words_of : Scenario → ℕ → Said → Option (List (List ℕ))
words_of scenario n said = option_map (λ step. step.words said) (line scenario n)

-- what follows, by whether the step succeeded
abbrev pub follows : Step → Bool → Follows
follows step ok = if ok then step.ok else step.failed

-- what follows a step of a scenario
abbrev pub next_of : Scenario → ℕ → Bool → Bool → Option StepNext
next_of scenario n ok plain = option_map (λ step. follows step ok plain) (line scenario n)

-- ---- turns

-- The steps of a scenario in such an order that each goes on to later ones alone. It is that of their numbers, but for
-- the calls that unwind an unpacking: what was unpacked is put back before them, in steps of higher numbers.
abbrev pub order_of : Scenario → List ℕ
order_of scenario.Install = 1 ∷ 2 ∷ 3 ∷ 5 ∷ 4 ∷ []
order_of scenario.InstallAgain = 1 ∷ 2 ∷ 3 ∷ 5 ∷ 4 ∷ []
order_of scenario.Upgrade = 1 ∷ 2 ∷ 3 ∷ 4 ∷ 5 ∷ 6 ∷ 7 ∷ 8 ∷ 9 ∷ 12 ∷ 13 ∷ 14 ∷ 10 ∷ 11 ∷ []
order_of scenario.Remove = 1 ∷ 2 ∷ 3 ∷ 4 ∷ []
order_of scenario.Purge = 1 ∷ 2 ∷ 3 ∷ 4 ∷ 5 ∷ 6 ∷ []
order_of scenario.PurgeLater = 1 ∷ 2 ∷ []
order_of scenario.InFavour = 1 ∷ 2 ∷ 3 ∷ 4 ∷ 5 ∷ 6 ∷ 9 ∷ 8 ∷ 7 ∷ []
order_of scenario.Deconfigure = 1 ∷ 2 ∷ 3 ∷ 4 ∷ 7 ∷ 5 ∷ 6 ∷ []
order_of scenario.Disappear = 1 ∷ 2 ∷ 3 ∷ 4 ∷ 6 ∷ 5 ∷ []
order_of scenario.Twice = 1 ∷ 2 ∷ []

-- the place of a number in a list, from 1 on
abbrev pub place_in : List ℕ → ℕ → ℕ
place_in [] n = 0
place_in (m ∷ ms) n = if m == n then 1 else suc (place_in ms n)

-- the turn of a step: its place in that order
abbrev pub turn_of : Scenario → ℕ → ℕ
turn_of scenario n = place_in (order_of scenario) n
