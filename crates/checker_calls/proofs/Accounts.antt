-- Accounts of scenarios, from those of their jobs; so those of all that are chosen, and the report that they tell.
use Rattle.std.proofs.Common.{◌≡◌, ℕ, List, [], ◌∷◌, map, Option, Result, Ok, Err, refl, sym, ap, subst, ◌∙◌}
use Rattle.std.specs.Prelude.{◌↔◌, IfOk}
use Rattle.std.specs.List.{AllZip}
use Rattle.feature_trees.specs.declared.value.Value.{Value}
use Rattle.dpkg_scenarios.specs.declared.scenario.Ending.{Ending}
use Rattle.dpkg_scenarios.specs.declared.scenario.Scenario.{Scenario}
use Rattle.checker_input.specs.declared.package.Packages.{Packages}
use Rattle.scenario_runs.specs.declared.job.Job.{Job}
use Rattle.scenario_runs.specs.declared.replayed.Replayed.{Replayed}
use Rattle.scenario_runs.specs.Runs.{scenario_run}
use Rattle.start_trees.specs.declared.need.Need.{Need}
use Rattle.start_trees.specs.Needs.{IsStart}
use Rattle.package_jobs.specs.Written.{written_run}
use Rattle.package_jobs.specs.StartTrees.{IsStartTree}
use Rattle.scenario_outcomes.specs.declared.outcome.OutcomesFault.{OutcomesFault}
use Rattle.scenario_outcomes.specs.Endings.{endings_of as outcome_endings, AreEndings}
use Rattle.outcome_report.specs.declared.outcome_report.ReportEntry.{ReportEntry}
use Rattle.outcome_report.specs.declared.outcome_report.ReportPart.{ReportPart}
use Rattle.outcome_report.specs.declared.outcome_report.Report.{Report}
use Rattle.report_text.specs.declared.told_part.Telling.{Telling}
use Rattle.report_text.specs.declared.told_part.Telling.TheVariants.{Briefly}
use Rattle.report_text.specs.declared.told_part.ToldPart.{ToldPart}
use Rattle.outcome_report.specs.OutcomeReport.{PartAnswers}
use Rattle.report_text.specs.Told.{Tells, IsTold, ToldAnswers}
use Rattle.outcome_report.proofs.PartOf.{part_of}
use Rattle.load_summary.specs.declared.endings.ScenarioEndings.{ScenarioEndings}
use Rattle.load_summary.specs.Endings.{ending_of, endings_of}
use Rattle.checker_calls.specs.declared.account.BriefPart.{BriefPart}
use Rattle.checker_calls.specs.declared.faults.TaskFault.{TaskFault}
use Rattle.checker_calls.specs.declared.faults.TaskFault.TheVariants.{Refused, Memory}
use Rattle.checker_calls.specs.Settled.{settled, after_value}
use Rattle.checker_calls.specs.Reports.{AreParts}
use Rattle.checker_calls.specs.Accounts.{IsAccount, JobGives, IsAccountOf, AreAccountsOf, AccountGives, AccountsGive}
use Rattle.checker_calls.proofs.Parts.{part_reported}

-- ---- the sorts of accounts

module _ (run : Value → Option Replayed) (start : Value → Type 0) (limit : ℕ) (scenario : Scenario) where
  -- the part itself
  pub part_itself : (result : Result ReportPart OutcomesFault) → PartAnswers run start limit result
      → IfOk result (λ part. part.scenario ≡ scenario)
      → JobGives (λ (part account : ReportPart). part ≡ account) run start limit scenario result
  part_itself (Ok part) answers same = record { part = part; of_scenario = same; answers = answers; tells = refl }
  part_itself (Err fault) answers same = answers

  -- what is told of it
  pub part_told : (telling : Telling) (result : Result ToldPart OutcomesFault) → ToldAnswers telling run start limit scenario result
      → JobGives (Tells telling) run start limit scenario result
  part_told telling (Ok told) is = record { part = is.part; of_scenario = is.of_scenario; answers = is.answers; tells = is.tells }
  part_told telling (Err fault) answers = answers

  -- what is told of it briefly
  pub part_briefly_told : (told : ToldPart) → IsTold Briefly run start limit scenario told
      → IsAccount (λ (part : ReportPart) (account : BriefPart). Tells Briefly part account.told) run start limit scenario
      (record { told = told })
  part_briefly_told told is = record { part = is.part; of_scenario = is.of_scenario; answers = is.answers; tells = is.tells }

  of_entries : (entries : List ReportEntry) → map ending_of entries ≡ outcome_endings (map (λ (e : ReportEntry). e.outcome) entries)
  of_entries [] = refl
  of_entries (entry ∷ entries) = ap (λ (es : List Ending). entry.outcome.ending ∷ es) (of_entries entries)

  -- how its outcomes end
  pub part_ends : (endings : List Ending) → AreEndings run start limit endings
      → IsAccount (λ (part : ReportPart) (account : ScenarioEndings). endings_of part ≡ account) run start limit scenario
      (record { scenario = scenario; endings = endings })
  part_ends endings are =
      let made = part_of run start scenario are.outcomes are.answers.0 in
      let same = of_entries made.part.entries ∙ ap outcome_endings made.same ∙ are.are in
      record {
        part = made.part;
        of_scenario = made.of_scenario;
        answers = (made.is, are.answers.1, are.answers.2);
        tells = rw (made.of_scenario, same) refl;
      }

module _ {T : Type 0} (Tells : ReportPart → T → Type 0) (packages : Packages) (turns limit : ℕ) where
  -- ---- a scenario

  pub accounted : (scenario : Scenario) (job : Job) (needs : List Need)
      → ((tree : Value) → scenario_run job tree ≡ written_run scenario packages turns tree)
      → ((tree : Value) → IsStart needs tree ↔ IsStartTree scenario packages tree) → (account : T)
      → job.scenario ≡ scenario → IsAccount Tells (scenario_run job) (IsStart needs) limit job.scenario account
      → IsAccountOf Tells packages turns limit scenario account
  accounted scenario job needs runs starts account same is = record {
    part = is.part;
    is = part_reported packages turns limit scenario job needs runs starts is.part (is.of_scenario ∙ same) is.answers;
    tells = is.tells;
  }

  -- ---- the chosen scenarios

  -- a scenario of which there is an account, before others
  later : (scenario : Scenario) (scenarios : List Scenario) (account : T) (rest : Result (List T) TaskFault)
      → IsAccountOf Tells packages turns limit scenario account
      → AccountsGive Tells packages turns limit scenarios rest
      → AccountsGive Tells packages turns limit (scenario ∷ scenarios) (after_value account rest)
  later scenario scenarios account (Ok accounts) is are = record {
    report = record { parts = is.part ∷ are.report.parts };
    parts = (is.is, are.parts);
    tell = (is.tells, are.tell);
  }
  later scenario scenarios account (Err (Refused refusal)) is first = record {
    before = scenario ∷ first.before;
    scenario = first.scenario;
    behind = first.behind;
    are = ap (λ ss. scenario ∷ ss) first.are;
    earlier = (is.is.bounded, first.earlier);
    refused = first.refused;
  }
  later scenario scenarios account (Err Memory) is first = tt

  all_settle : (scenarios : List Scenario) (answers : List (Result T TaskFault))
      → AllZip (AccountGives Tells packages turns limit) scenarios answers
      → AccountsGive Tells packages turns limit scenarios (settled answers)
  all_settle [] [] all = record { report = record { parts = [] }; parts = tt; tell = tt }
  all_settle [] (answer ∷ answers) all = absurd all
  all_settle (scenario ∷ scenarios) [] all = absurd all
  all_settle (scenario ∷ scenarios) (Ok account ∷ answers) all =
      later scenario scenarios account (settled answers) all.0 (all_settle scenarios answers all.1)
  all_settle (scenario ∷ scenarios) (Err (Refused refusal) ∷ answers) all = record {
    before = [];
    scenario = scenario;
    behind = scenarios;
    are = refl;
    earlier = tt;
    refused = all.0;
  }
  all_settle (scenario ∷ scenarios) (Err Memory ∷ answers) all = tt

  -- what comes of the answers, for the scenarios that were asked
  pub settles : (scenarios asked : List Scenario) (answers : List (Result T TaskFault)) (all : Result (List T) TaskFault)
      → asked ≡ scenarios → AllZip (AccountGives Tells packages turns limit) asked answers → all ≡ settled answers
      → AccountsGive Tells packages turns limit scenarios all
  settles scenarios asked answers all same each is =
      subst (AccountsGive Tells packages turns limit scenarios) (sym is)
      (subst (λ ss. AccountsGive Tells packages turns limit ss (settled answers)) same (all_settle asked answers each))

-- ---- the report that is told

same_parts : (parts accounts : List ReportPart) → AllZip (λ (part account : ReportPart). part ≡ account) parts accounts → parts ≡ accounts
same_parts [] [] all = refl
same_parts [] (account ∷ accounts) all = absurd all
same_parts (part ∷ parts) [] all = absurd all
same_parts (part ∷ parts) (account ∷ accounts) all = rw (all.0, same_parts parts accounts all.1) refl

-- parts that are their own accounts
pub own_parts : (packages : Packages) (turns limit : ℕ) (scenarios : List Scenario) (parts : List ReportPart)
    → AreAccountsOf (λ (part account : ReportPart). part ≡ account) packages turns limit scenarios parts
    → AreParts packages turns limit scenarios parts
own_parts packages turns limit scenarios parts are =
    subst (AreParts packages turns limit scenarios) (same_parts are.report.parts parts are.tell) are.parts

pub have_endings : (parts : List ReportPart) (endings : List ScenarioEndings)
    → AllZip (λ (part : ReportPart) (account : ScenarioEndings). endings_of part ≡ account) parts endings
    → map endings_of parts ≡ endings
have_endings [] [] all = refl
have_endings [] (one ∷ endings) all = absurd all
have_endings (part ∷ parts) [] all = absurd all
have_endings (part ∷ parts) (one ∷ endings) all = rw (all.0, have_endings parts endings all.1) refl

tell_briefly : (parts : List ReportPart) (accounts : List BriefPart)
    → AllZip (λ (part : ReportPart) (account : BriefPart). Tells Briefly part account.told) parts accounts
    → AllZip (Tells Briefly) parts (map (λ (account : BriefPart). account.told) accounts)
tell_briefly [] [] all = tt
tell_briefly [] (account ∷ accounts) all = absurd all
tell_briefly (part ∷ parts) [] all = absurd all
tell_briefly (part ∷ parts) (account ∷ accounts) all = (all.0, tell_briefly parts accounts all.1)

-- what is told of parts, of what is told briefly of them, as it was asked for
pub briefly_told : (packages : Packages) (turns limit : ℕ) (scenarios : List Scenario) (telling : Telling) (accounts : List BriefPart)
    (told : List ToldPart) → telling ≡ Briefly
    → AreAccountsOf (λ (part : ReportPart) (account : BriefPart). Tells Briefly part account.told) packages turns limit scenarios accounts
    → told ≡ map (λ (account : BriefPart). account.told) accounts
    → AreAccountsOf (Tells telling) packages turns limit scenarios told
briefly_told packages turns limit scenarios telling accounts told asked are same =
    let P : Telling → Type 0 = λ t. AreAccountsOf (Tells t) packages turns limit scenarios told in
    let Q : List ToldPart → Type 0 = λ ts. AllZip (Tells Briefly) are.report.parts ts in
    let brief : P Briefly = record {
      report = are.report;
      parts = are.parts;
      tell = subst Q (sym same) (tell_briefly are.report.parts accounts are.tell);
    } in
    subst P (sym asked) brief
