-- Steps are numbered in their order, what follows a step is one of a later turn, and each step is reached.
use Rattle.std.proofs.Common.{◌≡◌, ℕ, zero, suc, ◌+◌, ◌≤◌, Bool, true, false, ◌&&◌, nat_lt, List, [], ◌∷◌, length, Some, refl, subst, arith}
use Rattle.std.specs.Prelude.{◌==◌, if◌then◌else◌}
use Rattle.std.specs.List.{find}
use Rattle.std.specs.Option.{option_map}
use Rattle.std.proofs.lemmas.Bool.{eqb-true, ltb-true, and_parts}
use Rattle.dpkg_scenarios.specs.declared.scenario.Scenario.{Scenario}
use Rattle.dpkg_scenarios.specs.declared.scenario.Scenario.TheVariants.{Install, InstallAgain, Upgrade, Remove, Purge, PurgeLater}
use Rattle.dpkg_scenarios.specs.declared.scenario.Scenario.TheVariants.{InFavour, Deconfigure, Disappear, Twice}
use Rattle.dpkg_scenarios.specs.declared.scenario.StepNext.{StepNext}
use Rattle.dpkg_scenarios.specs.declared.scenario.StepNext.TheVariants.{Go, Stop}
use Rattle.dpkg_scenarios.specs.Scenarios.{Step, table}
use Rattle.dpkg_scenarios.specs.Steps.{IsStep, follows, order_of, place_in, turn_of}
use Rattle.dpkg_scenarios.specs.Laws.{GoesForward, TurnsAreFew, Succeeds, ReachesEach}

-- lines are numbered one after another, from this number on
abbrev pub counts : ℕ → List Step → Bool
counts m [] = true
counts m (step ∷ steps) = (step.number == m) && counts (m + 1) steps

pub tables_count : (s : Scenario) → counts 1 (table s) ≡ true
tables_count Install = refl
tables_count InstallAgain = refl
tables_count Upgrade = refl
tables_count Remove = refl
tables_count Purge = refl
tables_count PurgeLater = refl
tables_count InFavour = refl
tables_count Deconfigure = refl
tables_count Disappear = refl
tables_count Twice = refl

pub first_step : (s : Scenario) → IsStep s 1
first_step Install = (omega arith, omega arith)
first_step InstallAgain = (omega arith, omega arith)
first_step Upgrade = (omega arith, omega arith)
first_step Remove = (omega arith, omega arith)
first_step Purge = (omega arith, omega arith)
first_step PurgeLater = (omega arith, omega arith)
first_step InFavour = (omega arith, omega arith)
first_step Deconfigure = (omega arith, omega arith)
first_step Disappear = (omega arith, omega arith)
first_step Twice = (omega arith, omega arith)

-- ---- each line goes on to a later turn

abbrev goes_well : Scenario → ℕ → StepNext → Bool
goes_well s n (Go m) = nat_lt (turn_of s n) (turn_of s m) && (nat_lt 0 m && nat_lt m (suc (length (table s))))
goes_well s n (Stop ending) = true

abbrev step_well : Scenario → Step → Bool
step_well s step =
    (goes_well s step.number (step.ok false) && goes_well s step.number (step.ok true))
    && (goes_well s step.number (step.failed false) && goes_well s step.number (step.failed true))

abbrev all_well : Scenario → List Step → Bool
all_well s [] = true
all_well s (step ∷ steps) = step_well s step && all_well s steps

tables_well : (s : Scenario) → all_well s (table s) ≡ true
tables_well Install = refl
tables_well InstallAgain = refl
tables_well Upgrade = refl
tables_well Remove = refl
tables_well Purge = refl
tables_well PurgeLater = refl
tables_well InFavour = refl
tables_well Deconfigure = refl
tables_well Disappear = refl
tables_well Twice = refl

-- the four ways to leave a step
four : (a b c d : Bool) → ((a && b) && (c && d)) ≡ true → ((a ≡ true) × (b ≡ true)) × ((c ≡ true) × (d ≡ true))
four a b c d h = let both = and_parts (a && b) (c && d) h in (and_parts a b both.0, and_parts c d both.1)

follows_well : (s : Scenario) (step : Step) (ok plain : Bool) → step_well s step ≡ true → goes_well s step.number (follows step ok plain) ≡ true
follows_well s step ok plain h =
    by ok plain (four (goes (step.ok false)) (goes (step.ok true)) (goes (step.failed false)) (goes (step.failed true)) h)
  where
    goes : StepNext → Bool
    goes next = goes_well s step.number next

    by : (ok plain : Bool)
        → ((goes (step.ok false) ≡ true) × (goes (step.ok true) ≡ true)) × ((goes (step.failed false) ≡ true) × (goes (step.failed true) ≡ true))
        → goes (follows step ok plain) ≡ true
    by true false w = w.0.0
    by true true w = w.0.1
    by false false w = w.1.0
    by false true w = w.1.1

-- what holds of all lines holds of the one with a number
well_at : (s : Scenario) (n : ℕ) (ok plain : Bool) (next : StepNext) (steps : List Step) → all_well s steps ≡ true
    → option_map (λ step. follows step ok plain) (find (λ step. step.number == n) steps) ≡ Some next → goes_well s n next ≡ true
well_at s n ok plain next [] h e = absurd (cc)
well_at s n ok plain next (step ∷ steps) h e =
    by (step.number == n) refl (well_at s n ok plain next steps (and_parts (step_well s step) (all_well s steps) h).1) e
  where
    same : (a b : StepNext) → Some a ≡ Some b → a ≡ b
    same a b e = cc

    by : (b : Bool) → (step.number == n) ≡ b
        → (option_map (λ step. follows step ok plain) (find (λ step. step.number == n) steps) ≡ Some next → goes_well s n next ≡ true)
        → option_map (λ step. follows step ok plain) (if b then Some step else find (λ step. step.number == n) steps) ≡ Some next → goes_well s n next ≡ true
    by true d rest e =
        let here = follows_well s step ok plain (and_parts (step_well s step) (all_well s steps) h).0 in
        subst (λ k. goes_well s k next ≡ true) (eqb-true step.number n d) (subst (λ x. goes_well s step.number x ≡ true) (same _ _ e) here)
    by false d rest e = rest e

pub goes_forward : GoesForward
goes_forward s n m ok plain e =
    let well = well_at s n ok plain (Go m) (table s) (tables_well s) e in
    let later = and_parts (nat_lt (turn_of s n) (turn_of s m)) (nat_lt 0 m && nat_lt m (suc (length (table s)))) well in
    let step = and_parts (nat_lt 0 m) (nat_lt m (suc (length (table s)))) later.1 in
    let low = ltb-true 0 m step.0 in
    let high = ltb-true m (suc (length (table s))) step.1 in
    (ltb-true (turn_of s n) (turn_of s m) later.0, (omega (arith, low), omega (arith, high)))

-- ---- turns

one_more : (b : Bool) (n k : ℕ) → n ≤ k → (if b then 1 else suc n) ≤ suc k
one_more true n k h = omega (arith)
one_more false n k h = omega (arith, h)

place_few : (ms : List ℕ) (n : ℕ) → place_in ms n ≤ length ms
place_few [] n = omega (arith)
place_few (m ∷ ms) n = one_more (m == n) (place_in ms n) (length ms) (place_few ms n)

orders_few : (s : Scenario) → length (order_of s) ≡ length (table s)
orders_few Install = refl
orders_few InstallAgain = refl
orders_few Upgrade = refl
orders_few Remove = refl
orders_few Purge = refl
orders_few PurgeLater = refl
orders_few InFavour = refl
orders_few Deconfigure = refl
orders_few Disappear = refl
orders_few Twice = refl

pub turns_few : TurnsAreFew
turns_few s n = subst (λ k. turn_of s n ≤ k) (orders_few s) (place_few (order_of s) n)

-- the first step has a turn
pub first_turn : (s : Scenario) → turn_of s 1 ≡ 1
first_turn Install = refl
first_turn InstallAgain = refl
first_turn Upgrade = refl
first_turn Remove = refl
first_turn Purge = refl
first_turn PurgeLater = refl
first_turn InFavour = refl
first_turn Deconfigure = refl
first_turn Disappear = refl
first_turn Twice = refl

pub succeeds : Succeeds
succeeds Install plain = refl
succeeds InstallAgain plain = refl
succeeds Upgrade plain = refl
succeeds Remove plain = refl
succeeds Purge plain = refl
succeeds PurgeLater plain = refl
succeeds InFavour plain = refl
succeeds Deconfigure plain = refl
succeeds Disappear plain = refl
succeeds Twice plain = refl

pub reaches_each : ReachesEach
reaches_each Install zero step = absurd (omega (arith, step.0))
reaches_each Install (suc zero) step = ([], refl)
reaches_each Install (suc (suc zero)) step = (true ∷ [], refl)
reaches_each Install (suc (suc (suc zero))) step = (true ∷ true ∷ [], refl)
reaches_each Install (suc (suc (suc (suc zero)))) step = (false ∷ [], refl)
reaches_each Install (suc (suc (suc (suc (suc zero))))) step = (true ∷ false ∷ [], refl)
reaches_each Install (suc (suc (suc (suc (suc (suc n)))))) step = absurd (omega (arith, step.1))
reaches_each InstallAgain zero step = absurd (omega (arith, step.0))
reaches_each InstallAgain (suc zero) step = ([], refl)
reaches_each InstallAgain (suc (suc zero)) step = (true ∷ [], refl)
reaches_each InstallAgain (suc (suc (suc zero))) step = (true ∷ true ∷ [], refl)
reaches_each InstallAgain (suc (suc (suc (suc zero)))) step = (false ∷ [], refl)
reaches_each InstallAgain (suc (suc (suc (suc (suc zero))))) step = (true ∷ false ∷ [], refl)
reaches_each InstallAgain (suc (suc (suc (suc (suc (suc n)))))) step = absurd (omega (arith, step.1))
reaches_each Upgrade zero step = absurd (omega (arith, step.0))
reaches_each Upgrade (suc zero) step = ([], refl)
reaches_each Upgrade (suc (suc zero)) step = (false ∷ [], refl)
reaches_each Upgrade (suc (suc (suc zero))) step = (true ∷ [], refl)
reaches_each Upgrade (suc (suc (suc (suc zero)))) step = (true ∷ true ∷ [], refl)
reaches_each Upgrade (suc (suc (suc (suc (suc zero))))) step = (true ∷ true ∷ true ∷ [], refl)
reaches_each Upgrade (suc (suc (suc (suc (suc (suc zero)))))) step = (true ∷ true ∷ true ∷ false ∷ [], refl)
reaches_each Upgrade (suc (suc (suc (suc (suc (suc (suc zero))))))) step = (true ∷ true ∷ true ∷ true ∷ [], refl)
reaches_each Upgrade (suc (suc (suc (suc (suc (suc (suc (suc zero)))))))) step = (true ∷ true ∷ true ∷ true ∷ true ∷ [], refl)
reaches_each Upgrade (suc (suc (suc (suc (suc (suc (suc (suc (suc zero))))))))) step = (false ∷ false ∷ [], refl)
reaches_each Upgrade (suc (suc (suc (suc (suc (suc (suc (suc (suc (suc zero)))))))))) step = (true ∷ false ∷ [], refl)
reaches_each Upgrade (suc (suc (suc (suc (suc (suc (suc (suc (suc (suc (suc zero))))))))))) step = (true ∷ false ∷ true ∷ [], refl)
reaches_each Upgrade (suc (suc (suc (suc (suc (suc (suc (suc (suc (suc (suc (suc zero)))))))))))) step = (true ∷ true ∷ false ∷ [], refl)
reaches_each Upgrade (suc (suc (suc (suc (suc (suc (suc (suc (suc (suc (suc (suc (suc zero))))))))))))) step = (true ∷ true ∷ true ∷ false ∷ false ∷ [], refl)
reaches_each Upgrade (suc (suc (suc (suc (suc (suc (suc (suc (suc (suc (suc (suc (suc (suc zero)))))))))))))) step = (true ∷ true ∷ true ∷ false ∷ false ∷ true ∷ [], refl)
reaches_each Upgrade (suc (suc (suc (suc (suc (suc (suc (suc (suc (suc (suc (suc (suc (suc (suc n))))))))))))))) step = absurd (omega (arith, step.1))
reaches_each Remove zero step = absurd (omega (arith, step.0))
reaches_each Remove (suc zero) step = ([], refl)
reaches_each Remove (suc (suc zero)) step = (true ∷ [], refl)
reaches_each Remove (suc (suc (suc zero))) step = (true ∷ true ∷ [], refl)
reaches_each Remove (suc (suc (suc (suc zero)))) step = (false ∷ [], refl)
reaches_each Remove (suc (suc (suc (suc (suc n))))) step = absurd (omega (arith, step.1))
reaches_each Purge zero step = absurd (omega (arith, step.0))
reaches_each Purge (suc zero) step = ([], refl)
reaches_each Purge (suc (suc zero)) step = (true ∷ [], refl)
reaches_each Purge (suc (suc (suc zero))) step = (true ∷ true ∷ [], refl)
reaches_each Purge (suc (suc (suc (suc zero)))) step = (true ∷ true ∷ true ∷ [], refl)
reaches_each Purge (suc (suc (suc (suc (suc zero))))) step = (true ∷ true ∷ true ∷ true ∷ [], refl)
reaches_each Purge (suc (suc (suc (suc (suc (suc zero)))))) step = (false ∷ [], refl)
reaches_each Purge (suc (suc (suc (suc (suc (suc (suc n))))))) step = absurd (omega (arith, step.1))
reaches_each PurgeLater zero step = absurd (omega (arith, step.0))
reaches_each PurgeLater (suc zero) step = ([], refl)
reaches_each PurgeLater (suc (suc zero)) step = (true ∷ [], refl)
reaches_each PurgeLater (suc (suc (suc n))) step = absurd (omega (arith, step.1))
reaches_each InFavour zero step = absurd (omega (arith, step.0))
reaches_each InFavour (suc zero) step = ([], refl)
reaches_each InFavour (suc (suc zero)) step = (true ∷ [], refl)
reaches_each InFavour (suc (suc (suc zero))) step = (true ∷ true ∷ [], refl)
reaches_each InFavour (suc (suc (suc (suc zero)))) step = (true ∷ true ∷ true ∷ [], refl)
reaches_each InFavour (suc (suc (suc (suc (suc zero))))) step = (true ∷ true ∷ true ∷ true ∷ [], refl)
reaches_each InFavour (suc (suc (suc (suc (suc (suc zero)))))) step = (true ∷ true ∷ true ∷ true ∷ true ∷ [], refl)
reaches_each InFavour (suc (suc (suc (suc (suc (suc (suc zero))))))) step = (false ∷ [], refl)
reaches_each InFavour (suc (suc (suc (suc (suc (suc (suc (suc zero)))))))) step = (true ∷ false ∷ [], refl)
reaches_each InFavour (suc (suc (suc (suc (suc (suc (suc (suc (suc zero))))))))) step = (true ∷ true ∷ false ∷ [], refl)
reaches_each InFavour (suc (suc (suc (suc (suc (suc (suc (suc (suc (suc n)))))))))) step = absurd (omega (arith, step.1))
reaches_each Deconfigure zero step = absurd (omega (arith, step.0))
reaches_each Deconfigure (suc zero) step = ([], refl)
reaches_each Deconfigure (suc (suc zero)) step = (true ∷ [], refl)
reaches_each Deconfigure (suc (suc (suc zero))) step = (true ∷ true ∷ [], refl)
reaches_each Deconfigure (suc (suc (suc (suc zero)))) step = (true ∷ true ∷ true ∷ [], refl)
reaches_each Deconfigure (suc (suc (suc (suc (suc zero))))) step = (true ∷ false ∷ [], refl)
reaches_each Deconfigure (suc (suc (suc (suc (suc (suc zero)))))) step = (false ∷ [], refl)
reaches_each Deconfigure (suc (suc (suc (suc (suc (suc (suc zero))))))) step = (true ∷ true ∷ false ∷ [], refl)
reaches_each Deconfigure (suc (suc (suc (suc (suc (suc (suc (suc n)))))))) step = absurd (omega (arith, step.1))
reaches_each Disappear zero step = absurd (omega (arith, step.0))
reaches_each Disappear (suc zero) step = ([], refl)
reaches_each Disappear (suc (suc zero)) step = (true ∷ [], refl)
reaches_each Disappear (suc (suc (suc zero))) step = (true ∷ true ∷ [], refl)
reaches_each Disappear (suc (suc (suc (suc zero)))) step = (true ∷ true ∷ true ∷ [], refl)
reaches_each Disappear (suc (suc (suc (suc (suc zero))))) step = (false ∷ [], refl)
reaches_each Disappear (suc (suc (suc (suc (suc (suc zero)))))) step = (true ∷ false ∷ [], refl)
reaches_each Disappear (suc (suc (suc (suc (suc (suc (suc n))))))) step = absurd (omega (arith, step.1))
reaches_each Twice zero step = absurd (omega (arith, step.0))
reaches_each Twice (suc zero) step = ([], refl)
reaches_each Twice (suc (suc zero)) step = (true ∷ [], refl)
reaches_each Twice (suc (suc (suc n))) step = absurd (omega (arith, step.1))
