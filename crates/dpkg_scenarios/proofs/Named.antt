-- A name is that of the scenario that is found by it, and each scenario is found by its own.
use Rattle.std.proofs.Common.{◌≡◌, ℕ, Bool, true, false, List, [], ◌∷◌, Option, Some, None, refl}
use Rattle.std.specs.Prelude.{IfSome, if◌then◌else◌}
use Rattle.std.specs.List.{find}
use Rattle.std.specs.Str.{bytes_eq}
use Rattle.std.proofs.lemmas.Slice.Eq.{bytes_eq-Decides}
use Rattle.dpkg_scenarios.specs.declared.scenario.Scenario.{Scenario}
use Rattle.dpkg_scenarios.specs.declared.scenario.Scenario.TheVariants.{Install, InstallAgain, Upgrade, Remove, Purge, PurgeLater}
use Rattle.dpkg_scenarios.specs.declared.scenario.Scenario.TheVariants.{InFavour, Deconfigure, Disappear, Twice}
use Rattle.dpkg_scenarios.specs.Names.{scenario_name, named_among, scenario_named, pair_named}
use Rattle.dpkg_scenarios.specs.Scenarios.{checked_scenarios, is_checked, pair_scenarios}

-- what is found first in a row has what is looked for
module _ {X : Type 0} (p : X → Bool) (P : X → Type 0) (means : (x : X) → p x ≡ true → P x) where
  found_by : (x : X) (rest : Option X) (b : Bool) → p x ≡ b → IfSome rest P → IfSome (if b then Some x else rest) P
  found_by x rest true e later = means x e
  found_by x rest false e later = later

  found_has : (xs : List X) → IfSome (find p xs) P
  found_has [] = tt
  found_has (x ∷ xs) = found_by x (find p xs) (p x) refl (found_has xs)

names_among : (scenarios : List Scenario) (word : List ℕ) → IfSome (named_among scenarios word) (λ s. word ≡ scenario_name s)
names_among scenarios word =
    found_has (λ s. bytes_eq word (scenario_name s)) (λ s. word ≡ scenario_name s)
    (λ s e. (bytes_eq-Decides word (scenario_name s)).0 e) scenarios

pub names_scenario : (word : List ℕ) → IfSome (scenario_named word) (λ s. word ≡ scenario_name s)
names_scenario = names_among checked_scenarios

-- what is found by its name is one that a check answers for
module _ {X : Type 0} (p : X → Bool) (P : X → Type 0) where
  one_found : (x : X) (rest : Option X) (b : Bool) → P x → IfSome rest P → IfSome (if b then Some x else rest) P
  one_found x rest true here later = here
  one_found x rest false here later = later

pub named_checked : (word : List ℕ) → IfSome (scenario_named word) (λ s. is_checked s ≡ true)
named_checked word =
    let p : Scenario → Bool = λ s. bytes_eq word (scenario_name s) in
    let P : Scenario → Type 0 = λ s. is_checked s ≡ true in
    one_found p P Install _ (p Install) refl (one_found p P InstallAgain _ (p InstallAgain) refl
    (one_found p P Upgrade _ (p Upgrade) refl (one_found p P Remove _ (p Remove) refl
    (one_found p P Purge _ (p Purge) refl (one_found p P PurgeLater None (p PurgeLater) refl tt)))))

pub names_pair : (word : List ℕ) → IfSome (pair_named word) (λ s. word ≡ scenario_name s)
names_pair = names_among pair_scenarios

pub scenario_read : (s : Scenario) → is_checked s ≡ true → scenario_named (scenario_name s) ≡ Some s
scenario_read Install e = refl
scenario_read InstallAgain e = refl
scenario_read Upgrade e = refl
scenario_read Remove e = refl
scenario_read Purge e = refl
scenario_read PurgeLater e = refl
scenario_read InFavour e = absurd (cc e)
scenario_read Deconfigure e = absurd (cc e)
scenario_read Disappear e = absurd (cc e)
scenario_read Twice e = absurd (cc e)

-- no two scenarios have one name

abbrev pub every_scenario : List Scenario
every_scenario = Install ∷ InstallAgain ∷ Upgrade ∷ Remove ∷ Purge ∷ PurgeLater ∷ InFavour ∷ Deconfigure ∷ Disappear ∷ Twice ∷ []

abbrev pub any_named : List ℕ → Option Scenario
any_named = named_among every_scenario

pub any_read : (s : Scenario) → any_named (scenario_name s) ≡ Some s
any_read Install = refl
any_read InstallAgain = refl
any_read Upgrade = refl
any_read Remove = refl
any_read Purge = refl
any_read PurgeLater = refl
any_read InFavour = refl
any_read Deconfigure = refl
any_read Disappear = refl
any_read Twice = refl
