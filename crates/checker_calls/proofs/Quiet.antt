-- What is reported without failed outcomes fails from no start tree, and what is reported as done is done from each.
use Rattle.std.proofs.Common.{◌≡◌, ℕ, zero, suc, Bool, true, false, List, [], ◌∷◌, map, Some, refl, sym, ◌∙◌, subst}
use Rattle.std.specs.Prelude.{slice_get, ◌||◌, ◌==◌}
use Rattle.std.specs.List.{list_any}
use Rattle.feature_trees.specs.declared.value.Value.{Value}
use Rattle.dpkg_scenarios.specs.declared.scenario.Scenario.{Scenario}
use Rattle.dpkg_scenarios.specs.declared.scenario.Ending.{Ending}
use Rattle.dpkg_scenarios.specs.declared.scenario.Ending.TheVariants.{Done, Failed, Incomplete, Bound}
use Rattle.checker_input.specs.declared.package.Packages.{Packages}
use Rattle.scenario_runs.specs.declared.replayed.Replayed.{Replayed}
use Rattle.scenario_runs.specs.Laws.{is_bound}
use Rattle.package_jobs.specs.Written.{written_run}
use Rattle.package_jobs.specs.StartTrees.{IsStartTree}
use Rattle.package_jobs.specs.Laws.{MoreTurnsSameRun}
use Rattle.scenario_outcomes.specs.declared.outcome.Outcome.{Outcome}
use Rattle.outcome_report.specs.declared.outcome_report.ReportEntry.{ReportEntry}
use Rattle.outcome_report.specs.declared.outcome_report.ReportPart.{ReportPart}
use Rattle.outcome_report.specs.OutcomeReport.{part_has}
use Rattle.dpkg_scenarios.specs.Verdicts.{ending_verdict, joint_verdict}
use Rattle.checker_calls.specs.Reports.{AreParts, IsPartOf}
use Rattle.checker_calls.specs.Laws.{IsDone, IsFailed, IsDoneEverywhere, FailsNowhere, QuietScenario, QuietReport, UnfailedScenario, UnfailedReport}

-- ---- a scenario

record EntryAt (entries : List ReportEntry) (place : ℕ) (outcome : Outcome) : Type 0 where
  entry : ReportEntry
  at : slice_get entries place ≡ Some entry
  same : entry.outcome ≡ outcome

entry_at : (entries : List ReportEntry) (place : ℕ) (outcome : Outcome)
    → slice_get (map (λ entry. entry.outcome) entries) place ≡ Some outcome → EntryAt entries place outcome
entry_at [] place outcome e = absurd (cc e)
entry_at (entry ∷ entries) zero outcome e = record { entry = entry; at = refl; same = cc }
entry_at (entry ∷ entries) (suc place) outcome e =
    let later = entry_at entries place outcome e in record { entry = later.entry; at = later.at; same = later.same }

-- the run from a start tree ends as an entry of the part says
record EndsAsReported (packages : Packages) (turns : ℕ) (scenario : Scenario) (part : ReportPart) (start : Value) : Type 0 where
  place : ℕ
  entry : ReportEntry
  at : slice_get part.entries place ≡ Some entry
  run : Replayed
  is_run : written_run scenario packages turns start ≡ Some run
  ending : entry.outcome.ending ≡ run.ending

ends_as_reported : (packages : Packages) (turns limit : ℕ) (scenario : Scenario) (part : ReportPart)
    → IsPartOf packages turns limit scenario part → (start : Value) → IsStartTree scenario packages start
    → EndsAsReported packages turns scenario part start
ends_as_reported packages turns limit scenario part is start is_start =
    let covers = (is.exact.exact.once start is_start).covers in
    let place = (is.exact.exact.once start is_start).place in
    let runs = (is.exact.exact.runs place covers.outcome start covers.covers.0 covers.at covers.covers.1).1 in
    let found = entry_at part.entries place covers.outcome covers.at in
    record {
      place = place;
      entry = found.entry;
      at = found.at;
      run = runs.replayed;
      is_run = runs.is_run;
      ending = subst (λ (o : Outcome). o.ending ≡ runs.replayed.ending) (sym found.same) (sym runs.ending);
    }

not_bound : (ending : Ending) → IsDone ending → is_bound ending ≡ false
not_bound (Done state) done = refl
not_bound (Failed state) done = absurd done
not_bound (Incomplete reason site) done = absurd done
not_bound (Bound site) done = absurd done

pub quiet_scenario : MoreTurnsSameRun → QuietScenario
quiet_scenario more packages turns limit scenario part is quiet start is_start =
    let ends = ends_as_reported packages turns limit scenario part is start is_start in
    let done = subst IsDone ends.ending (quiet ends.place ends.entry ends.at) in
    let free = not_bound ends.run.ending done in
    (ends.run, (λ n. more scenario packages turns n start ends.run ends.is_run free), done)

pub unfailed_scenario : MoreTurnsSameRun → UnfailedScenario
unfailed_scenario more packages turns limit scenario part is unfailed start is_start =
    let ends = ends_as_reported packages turns limit scenario part is start is_start in
    record {
      run = ends.run;
      is_run = ends.is_run;
      unfailed = λ failed. unfailed ends.place ends.entry ends.at (subst IsFailed (sym ends.ending) failed);
      with_more = λ free n. more scenario packages turns n start ends.run ends.is_run free;
    }

-- ---- a report

none_of : (b c : Bool) → joint_verdict b c ≡ 0 → (b ≡ false) × (c ≡ false)
none_of true c e = absurd (cc e)
none_of false true e = absurd (cc e)
none_of false false e = (refl, refl)

none_failed : (b c : Bool) → (joint_verdict b c ≡ 1 → ⊥) → b ≡ false
none_failed true c other = absurd (other refl)
none_failed false c other = refl

neither : (b c : Bool) → (b || c) ≡ false → (b ≡ false) × (c ≡ false)
neither true c e = absurd (cc e)
neither false c e = (refl, e)

-- where none passes a test, that at each place fails it
none_at : {X : Type 0} (test : X → Bool) (xs : List X) → list_any test xs ≡ false → (place : ℕ) (x : X)
    → slice_get xs place ≡ Some x → test x ≡ false
none_at test [] none place x e = absurd (cc e)
none_at test (y ∷ xs) none zero x e =
    let same : y ≡ x = cc in
    subst (λ z. test z ≡ false) same (neither (test y) (list_any test xs) none).0
none_at test (y ∷ xs) none (suc place) x e = none_at test xs (neither (test y) (list_any test xs) none).1 place x e

done_of : (ending : Ending) → (ending_verdict ending == 1) ≡ false → (ending_verdict ending == 2) ≡ false → IsDone ending
done_of (Done state) one two = tt
done_of (Failed state) one two = cc one
done_of (Incomplete reason site) one two = cc two
done_of (Bound site) one two = cc two

unfailed_of : (ending : Ending) → (ending_verdict ending == 1) ≡ false → IsFailed ending → ⊥
unfailed_of (Done state) one failed = failed
unfailed_of (Failed state) one failed = cc one
unfailed_of (Incomplete reason site) one failed = failed
unfailed_of (Bound site) one failed = failed

-- the ending of the entry has this verdict
abbrev ends_so : ℕ → ReportEntry → Bool
ends_so verdict entry = ending_verdict entry.outcome.ending == verdict

module _ (packages : Packages) (turns limit : ℕ) (Has : ReportPart → Type 0) (Holds : Scenario → Type 0)
    (each : (scenario : Scenario) (part : ReportPart) → IsPartOf packages turns limit scenario part → Has part → Holds scenario) where
  -- what holds of a scenario by its part holds of each
  all_hold : (scenarios : List Scenario) (parts : List ReportPart) → AreParts packages turns limit scenarios parts
      → ((place : ℕ) (part : ReportPart) → slice_get parts place ≡ Some part → Has part)
      → (place : ℕ) (scenario : Scenario) → slice_get scenarios place ≡ Some scenario → Holds scenario
  all_hold [] [] are has place scenario e = absurd (cc e)
  all_hold [] (part ∷ parts) are has place scenario e = absurd are
  all_hold (first ∷ scenarios) [] are has place scenario e = absurd are
  all_hold (first ∷ scenarios) (part ∷ parts) are has zero scenario e =
      let same : first ≡ scenario = cc in subst Holds same (each first part are.0 (has zero part refl))
  all_hold (first ∷ scenarios) (part ∷ parts) are has (suc place) scenario e =
      all_hold scenarios parts are.1 (λ at other there. has (suc at) other there) place scenario e

-- no outcome of the part has this verdict
abbrev HasNone : ℕ → ReportPart → Type 0
HasNone verdict part = part_has verdict part ≡ false

pub quiet_report : MoreTurnsSameRun → QuietReport
quiet_report more packages turns limit scenarios layout text is =
    let none = none_of (list_any (part_has 1) is.report.parts) (list_any (part_has 2) is.report.parts) (sym is.status_is) in
    all_hold packages turns limit (λ part. HasNone 1 part × HasNone 2 part) (IsDoneEverywhere packages turns)
    (λ scenario part is_part none. quiet_scenario more packages turns limit scenario part is_part
    (λ place entry at. done_of entry.outcome.ending (none_at (ends_so 1) part.entries none.0 place entry at)
    (none_at (ends_so 2) part.entries none.1 place entry at)))
    scenarios is.report.parts is.parts
    (λ place part at. (none_at (part_has 1) is.report.parts none.0 place part at, none_at (part_has 2) is.report.parts none.1 place part at))

pub unfailed_report : MoreTurnsSameRun → UnfailedReport
unfailed_report more packages turns limit scenarios layout text status is other =
    let none = none_failed (list_any (part_has 1) is.report.parts) (list_any (part_has 2) is.report.parts)
    (λ failed. other (is.status_is ∙ failed)) in
    all_hold packages turns limit (HasNone 1) (FailsNowhere packages turns)
    (λ scenario part is_part none. unfailed_scenario more packages turns limit scenario part is_part
    (λ place entry at. unfailed_of entry.outcome.ending (none_at (ends_so 1) part.entries none place entry at)))
    scenarios is.report.parts is.parts (λ place part at. none_at (part_has 1) is.report.parts none place part at)
