-- What is made of each scenario: an account of the part of a report on it, as the part itself, what is told of it, or
-- how its outcomes end; or else which scenario is refused.
use Rattle.std.specs.Prelude.{◌≡◌, ℕ, List, Option, Result, Ok, Err}
use Rattle.std.specs.List.{AllZip}
use Rattle.feature_trees.specs.declared.value.Value.{Value}
use Rattle.dpkg_scenarios.specs.declared.scenario.Scenario.{Scenario}
use Rattle.checker_input.specs.declared.package.Packages.{Packages}
use Rattle.scenario_runs.specs.declared.replayed.Replayed.{Replayed}
use Rattle.scenario_outcomes.specs.declared.outcome.OutcomesFault.{OutcomesFault}
use Rattle.outcome_report.specs.declared.outcome_report.ReportPart.{ReportPart}
use Rattle.outcome_report.specs.declared.outcome_report.Report.{Report}
use Rattle.outcome_report.specs.OutcomeReport.{PartAnswers}
use Rattle.checker_calls.specs.declared.faults.TaskFault.{TaskFault}
use Rattle.checker_calls.specs.Reports.{IsPartOf, AreParts, IsFault, IsFirstFault}

-- An account of this sort tells a part so.
module _ {T : Type 0} (Tells : ReportPart → T → Type 0) where
  -- ---- of a job

  -- it tells some part that is the answer
  pub record IsAccount (run : Value → Option Replayed) (start : Value → Type 0) (limit : ℕ) (scenario : Scenario)
      (account : T) : Type 0 where
    pub part : ReportPart
    pub of_scenario : part.scenario ≡ scenario
    pub answers : PartAnswers run start limit (Ok part)
    pub tells : Tells part account

  -- The answer: an account of a part; and a fault exactly as for the part itself.
  abbrev pub JobGives :
      (Value → Option Replayed) → (Value → Type 0) → ℕ → Scenario → Result T OutcomesFault → Type 0
  JobGives run start limit scenario (Ok account) = IsAccount run start limit scenario account
  JobGives run start limit scenario (Err fault) = PartAnswers run start limit (Err fault)

-- Packages are checked, with so many turns of loops in a run, and so many different traces at most in a scenario.
module _ {T : Type 0} (Tells : ReportPart → T → Type 0) (packages : Packages) (turns limit : ℕ) where
  -- ---- of scenarios

  -- it tells some part of a report on the scenario
  pub record IsAccountOf (scenario : Scenario) (account : T) : Type 0 where
    pub part : ReportPart
    pub is : IsPartOf packages turns limit scenario part
    pub tells : Tells part account

  -- they tell the parts of some report on the scenarios
  pub record AreAccountsOf (scenarios : List Scenario) (accounts : List T) : Type 0 where
    pub report : Report
    pub parts : AreParts packages turns limit scenarios report.parts
    pub tell : AllZip Tells report.parts accounts

  -- the account of a scenario, or why there is none
  abbrev pub AccountGives : Scenario → Result T TaskFault → Type 0
  AccountGives scenario (Ok account) = IsAccountOf scenario account
  AccountGives scenario (Err fault) = IsFault packages turns limit scenario fault

  -- the accounts of scenarios, or why there are none
  abbrev pub AccountsGive : List Scenario → Result (List T) TaskFault → Type 0
  AccountsGive scenarios (Ok accounts) = AreAccountsOf scenarios accounts
  AccountsGive scenarios (Err fault) = IsFirstFault packages turns limit scenarios fault
