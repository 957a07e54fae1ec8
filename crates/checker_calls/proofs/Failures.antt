-- What is reported as failed fails from the tree that is shown.
use Rattle.std.proofs.Common.{◌≡◌, ◌⊎◌, inl, inr, ℕ, zero, suc, Bool, true, false, List, [], ◌∷◌, map, Option, Some, refl, sym, ap, ◌∙◌, subst}
use Rattle.std.specs.Prelude.{slice_get, ◌||◌, ◌==◌, if◌then◌else◌}
use Rattle.std.specs.List.{list_any}
use Rattle.feature_trees.specs.declared.value.Value.{Value}
use Rattle.dpkg_scenarios.specs.declared.scenario.Scenario.{Scenario}
use Rattle.dpkg_scenarios.specs.declared.scenario.Ending.{Ending}
use Rattle.dpkg_scenarios.specs.declared.scenario.Ending.TheVariants.{Done, Failed, Incomplete, Bound}
use Rattle.checker_input.specs.declared.package.Packages.{Packages}
use Rattle.scenario_runs.specs.declared.replayed.Replayed.{Replayed}
use Rattle.scenario_runs.specs.Laws.{is_bound}
use Rattle.package_jobs.specs.Written.{written_run}
use Rattle.package_jobs.specs.Laws.{MoreTurnsSameRun}
use Rattle.outcome_report.specs.declared.replay.Replay.{Replay}
use Rattle.outcome_report.specs.declared.outcome_report.ReportEntry.{ReportEntry}
use Rattle.outcome_report.specs.declared.outcome_report.ReportPart.{ReportPart}
use Rattle.outcome_report.specs.OutcomeReport.{IsEntryOf, AllEntries, part_has}
use Rattle.dpkg_scenarios.specs.Verdicts.{ending_verdict}
use Rattle.checker_calls.specs.Reports.{AreParts, IsPartOf}
use Rattle.checker_calls.specs.Laws.{IsFailed, IsFailure, FailsSomewhere, FailedScenario, FailedReport}

-- ---- a scenario

outcome_at : (entries : List ReportEntry) (place : ℕ) (entry : ReportEntry) → slice_get entries place ≡ Some entry
    → slice_get (map (λ entry. entry.outcome) entries) place ≡ Some entry.outcome
outcome_at [] place entry e = absurd (cc e)
outcome_at (first ∷ entries) zero entry e =
    let same : first ≡ entry = cc in ap (λ (x : ReportEntry). Some x.outcome) same
outcome_at (first ∷ entries) (suc place) entry e = outcome_at entries place entry e

entry_of : (run : Value → Option Replayed) (entries : List ReportEntry) (place : ℕ) (entry : ReportEntry)
    → AllEntries run entries → slice_get entries place ≡ Some entry → IsEntryOf run entry
entry_of run [] place entry all e = absurd (cc e)
entry_of run (first ∷ entries) zero entry all e =
    let same : first ≡ entry = cc in subst (IsEntryOf run) same all.0
entry_of run (first ∷ entries) (suc place) entry all e = entry_of run entries place entry all.1 e

not_bound : (ending : Ending) → IsFailed ending → is_bound ending ≡ false
not_bound (Done state) failed = absurd failed
not_bound (Failed state) failed = refl
not_bound (Incomplete reason site) failed = absurd failed
not_bound (Bound site) failed = absurd failed

pub failed_scenario : MoreTurnsSameRun → FailedScenario
failed_scenario more packages turns limit scenario part is place entry at reported =
    let there = outcome_at part.entries place entry at in
    let covers = is.exact.exact.shown place entry.outcome there in
    let shown = entry.outcome.shown in
    let start = (is.exact.exact.runs place entry.outcome shown covers.0 there covers.1).0 in
    let own = entry_of (written_run scenario packages turns) part.entries place entry is.exact.entries at in
    let run = own.whole in
    let ending : entry.outcome.ending ≡ run.ending = sym own.agrees.ending ∙ ap (λ (r : Replay). r.ending) own.kept in
    let failed = subst IsFailed ending reported in
    let free = not_bound run.ending failed in
    let failure : IsFailure packages turns scenario shown run = record {
      is_start = start;
      is_run = λ n. more scenario packages turns n shown run own.replayed free;
      failed = failed;
    } in
    (run, own.kept, failure)

-- ---- a report

one_of : (b c : Bool) → (b || c) ≡ true → (b ≡ true) ⊎ (c ≡ true)
one_of true c e = inl refl
one_of false c e = inr e

some_fails : (b c : Bool) → ◌≡◌ {A = ℕ} (if b then 1 else (if c then 2 else 0)) 1 → b ≡ true
some_fails true c e = refl
some_fails false true e = absurd (cc e)
some_fails false false e = absurd (cc e)

failed_of : (ending : Ending) → (ending_verdict ending == 1) ≡ true → IsFailed ending
failed_of (Done state) e = cc e
failed_of (Failed state) e = tt
failed_of (Incomplete reason site) e = cc e
failed_of (Bound site) e = cc e

record SomeEntry (entries : List ReportEntry) : Type 0 where
  place : ℕ
  entry : ReportEntry
  at : slice_get entries place ≡ Some entry
  failed : IsFailed entry.outcome.ending

entry_or_later : (entry : ReportEntry) (entries : List ReportEntry)
    → ((ending_verdict entry.outcome.ending == 1) ≡ true)
    ⊎ (list_any (λ entry. ending_verdict entry.outcome.ending == 1) entries ≡ true)
    → (list_any (λ entry. ending_verdict entry.outcome.ending == 1) entries ≡ true → SomeEntry entries)
    → SomeEntry (entry ∷ entries)
entry_or_later entry entries (inl e) later =
    record { place = 0; entry = entry; at = refl; failed = failed_of entry.outcome.ending e }
entry_or_later entry entries (inr e) later =
    let found = later e in record { place = suc found.place; entry = found.entry; at = found.at; failed = found.failed }

some_entry : (entries : List ReportEntry) → list_any (λ entry. ending_verdict entry.outcome.ending == 1) entries ≡ true
    → SomeEntry entries
some_entry [] e = absurd (cc e)
some_entry (entry ∷ entries) e =
    entry_or_later entry entries
    (one_of (ending_verdict entry.outcome.ending == 1) (list_any (λ entry. ending_verdict entry.outcome.ending == 1) entries) e)
    (some_entry entries)

module _ (more : MoreTurnsSameRun) (packages : Packages) (turns limit : ℕ) where
  part_fails : (scenario : Scenario) (scenarios : List Scenario) (part : ReportPart) → IsPartOf packages turns limit scenario part
      → SomeEntry part.entries → FailsSomewhere packages turns (scenario ∷ scenarios)
  part_fails scenario scenarios part is some =
      let failing = failed_scenario more packages turns limit scenario part is some.place some.entry some.at some.failed in
      record {
        place = 0;
        scenario = scenario;
        at = refl;
        start = some.entry.outcome.shown;
        run = failing.0;
        failure = failing.2;
      }

  later_fails : (scenario : Scenario) (scenarios : List Scenario) → FailsSomewhere packages turns scenarios
      → FailsSomewhere packages turns (scenario ∷ scenarios)
  later_fails scenario scenarios some = record {
    place = suc some.place;
    scenario = some.scenario;
    at = some.at;
    start = some.start;
    run = some.run;
    failure = some.failure;
  }

  part_or_later : (scenario : Scenario) (scenarios : List Scenario) (part : ReportPart) (parts : List ReportPart)
      → IsPartOf packages turns limit scenario part
      → (part_has 1 part ≡ true) ⊎ (list_any (part_has 1) parts ≡ true)
      → (list_any (part_has 1) parts ≡ true → FailsSomewhere packages turns scenarios)
      → FailsSomewhere packages turns (scenario ∷ scenarios)
  part_or_later scenario scenarios part parts is (inl e) later = part_fails scenario scenarios part is (some_entry part.entries e)
  part_or_later scenario scenarios part parts is (inr e) later = later_fails scenario scenarios (later e)

  some_part : (scenarios : List Scenario) (parts : List ReportPart) → AreParts packages turns limit scenarios parts
      → list_any (part_has 1) parts ≡ true → FailsSomewhere packages turns scenarios
  some_part [] [] are e = absurd (cc e)
  some_part [] (part ∷ parts) are e = absurd are
  some_part (scenario ∷ scenarios) [] are e = absurd are
  some_part (scenario ∷ scenarios) (part ∷ parts) are e =
      part_or_later scenario scenarios part parts are.0 (one_of (part_has 1 part) (list_any (part_has 1) parts) e)
      (some_part scenarios parts are.1)

pub failed_report : MoreTurnsSameRun → FailedReport
failed_report more packages turns limit scenarios layout text is =
    some_part more packages turns limit scenarios is.report.parts is.parts
    (some_fails (list_any (part_has 1) is.report.parts) (list_any (part_has 2) is.report.parts) (sym is.status_is))
