-- The lines of the scenarios' tables, and what follows their steps.
use Rattle.std.proofs.Common.{◌≡◌, ℕ, ◌+◌, ◌<◌, ◌≤◌, Bool, true, false, List, [], ◌∷◌, length, Option, Some, None, refl, ap, ◌∙◌, arith}
use Rattle.std.specs.Prelude.{◌==◌, if◌then◌else◌}
use Rattle.std.specs.List.{find}
use Rattle.std.specs.Option.{option_map}
use Rattle.std.proofs.lemmas.Bool.{eqb-true, eqb-false, and_parts}
use Rattle.dpkg_scenarios.specs.declared.scenario.Scenario.{Scenario}
use Rattle.dpkg_scenarios.specs.declared.scenario.StepNext.{StepNext}
use Rattle.dpkg_scenarios.specs.declared.scenario.StepNext.TheVariants.{Go, Stop}
use Rattle.dpkg_scenarios.specs.Scenarios.{Step, table}
use Rattle.dpkg_scenarios.specs.Steps.{IsStep, line, follows}
use Rattle.dpkg_scenarios.specs.Laws.{GoesForward}
use Rattle.dpkg_scenarios.proofs.Walks.{counts, tables_count}
use Rattle.scenario_runs.specs.declared.course.WorkEnd.{WorkEnd}
use Rattle.scenario_runs.specs.declared.course.WorkEnd.TheVariants.{Succeeded, Failed, Over}
use Rattle.scenario_runs.specs.Runs.{next_behind}
use Rattle.scenario_runs.specs.Later.{IsLater}

-- ---- each step has a line

-- a line, of which the table says this
pub record IsTold {A : Type 0} (f : Step → A) (o : Option Step) (a : A) : Type 0 where
  pub step : Step
  pub is_line : o ≡ Some step
  pub told : f step ≡ a

pub is_told : {A : Type 0} (f : Step → A) (o : Option Step) (a : A) → option_map f o ≡ Some a → IsTold f o a
is_told f None a e = absurd (cc)
is_told f (Some step) a e = record { step = step; is_line = refl; told = same (f step) a e }
  where
    same : {A : Type 0} (x y : A) → Some x ≡ Some y → x ≡ y
    same x y e = cc

pub record Finds (n : ℕ) (steps : List Step) : Type 0 where
  pub step : Step
  pub is : find (λ step. step.number == n) steps ≡ Some step

head_or : (step : Step) (steps : List Step) (n : ℕ) (b : Bool) → (step.number == n) ≡ b → (b ≡ false → Finds n steps)
    → (found : Step) × ((if b then Some step else find (λ step. step.number == n) steps) ≡ Some found)
head_or step steps n true d rest = (step, refl)
head_or step steps n false d rest = let f = rest refl in (f.step, f.is)

found_in : (steps : List Step) (m n : ℕ) → counts m steps ≡ true → m ≤ n → n < m + length steps → Finds n steps
found_in [] m n c low high = absurd (omega arith)
found_in (step ∷ steps) m n c low high =
    let parts = and_parts (step.number == m) (counts (m + 1) steps) c in
    let here : step.number ≡ m = eqb-true step.number m parts.0 in
    let more = λ (d : (step.number == n) ≡ false).
    let other = eqb-false step.number n d in
    let above : m + 1 ≤ n = omega (arith, here, other) in
    found_in steps (m + 1) n parts.1 above (omega arith) in
    let h = head_or step steps n (step.number == n) refl more in
    record { step = h.0; is = h.1 }

pub has_line : (s : Scenario) (n : ℕ) → IsStep s n → Finds n (table s)
has_line s n step = found_in (table s) 1 n (tables_count s) step.0 (omega (arith, step.1))

-- ---- what follows is of a later turn

later : GoesForward → (s : Scenario) (n : ℕ) (ok plain : Bool) (step : Step) (next : StepNext)
    → line s n ≡ Some step → follows step ok plain ≡ next → IsLater s n next
later g s n ok plain step (Go m) is e = g s n m ok plain (ap (option_map (λ step. follows step ok plain)) is ∙ ap Some e)
later g s n ok plain step (Stop ending) is e = tt

pub behind_later : GoesForward → (s : Scenario) (n : ℕ) (plain : Bool) (step : Step) (end : WorkEnd)
    → line s n ≡ Some step → IsLater s n (next_behind plain step end)
behind_later g s n plain step Succeeded is = later g s n true plain step (follows step true plain) is refl
behind_later g s n plain step (Failed at) is = later g s n false plain step (follows step false plain) is refl
behind_later g s n plain step (Over ending) is = tt
