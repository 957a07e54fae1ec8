-- Outcomes that are exact make a part of a report. It is a lemma, for the proofs of the crates above, since it speaks
-- of all predicates of trees, as no clause can.
use Rattle.std.proofs.Common.{◌≡◌, ℕ, suc, true, List, [], ◌∷◌, map, Option, Some, refl, sym, ap, subst}
use Rattle.std.specs.List.{slice_get}
use Rattle.feature_trees.specs.declared.value.Value.{Value}
use Rattle.dpkg_scenarios.specs.declared.scenario.Scenario.{Scenario}
use Rattle.scenario_runs.specs.declared.replayed.Replayed.{Replayed}
use Rattle.scenario_outcomes.specs.declared.outcome.Outcome.{Outcome}
use Rattle.scenario_outcomes.specs.Outcomes.{EndsAs, IsExact}
use Rattle.outcome_report.specs.declared.outcome_report.ReportEntry.{ReportEntry}
use Rattle.outcome_report.specs.declared.outcome_report.ReportPart.{ReportPart}
use Rattle.outcome_report.specs.Kept.{replay_of}
use Rattle.outcome_report.specs.OutcomeReport.{IsEntryOf, AllEntries, outcomes_of, IsPart}

-- the outcome of an entry
abbrev pub outcome_of : ReportEntry → Outcome
outcome_of entry = entry.outcome

module _ (run : Value → Option Replayed) where
  -- the outcome ends as some run from the tree that it shows
  abbrev IsRun : Outcome → Type 0
  IsRun outcome = (now : Value) × EndsAs run outcome outcome.shown now

  -- entries with these outcomes
  record EntriesOf (outcomes : List Outcome) : Type 0 where
    entries : List ReportEntry
    are : AllEntries run entries
    same : map outcome_of entries ≡ outcomes

  abbrev entry : (outcome : Outcome) → IsRun outcome → ReportEntry
  entry outcome is = record { outcome = outcome; replayed = replay_of is.1.replayed; confirmed = true }

  is_entry : (outcome : Outcome) (is : IsRun outcome) → IsEntryOf run (entry outcome is)
  is_entry outcome is = record {
    whole = is.1.replayed;
    replayed = is.1.is_run;
    kept = refl;
    agrees = record { ending = is.1.ending; trace = is.1.trace };
    confirmed = refl;
  }

  entries_of : (outcomes : List Outcome)
      → ((place : ℕ) (outcome : Outcome) → slice_get outcomes place ≡ Some outcome → IsRun outcome)
      → EntriesOf outcomes
  entries_of [] each = record { entries = []; are = tt; same = refl }
  entries_of (outcome ∷ outcomes) each =
      let is = each 0 outcome refl in
      let rest = entries_of outcomes (λ place other at. each (suc place) other at) in
      record {
        entries = entry outcome is ∷ rest.entries;
        are = (is_entry outcome is, rest.are);
        same = ap (λ (os : List Outcome). outcome ∷ os) rest.same;
      }

  module _ (start : Value → Type 0) where
    -- a part of a report with these outcomes
    pub record PartOf (scenario : Scenario) (outcomes : List Outcome) : Type 0 where
      pub part : ReportPart
      pub of_scenario : part.scenario ≡ scenario
      pub is : IsPart run start part
      pub same : outcomes_of part ≡ outcomes

    pub part_of : (scenario : Scenario) (outcomes : List Outcome) → IsExact run start outcomes → PartOf scenario outcomes
    part_of scenario outcomes exact =
        let each : (place : ℕ) (outcome : Outcome) → slice_get outcomes place ≡ Some outcome → IsRun outcome =
        λ place outcome at.
        let covers = exact.shown place outcome at in
        (covers.0, (exact.runs place outcome outcome.shown covers.0 at covers.1).1) in
        let all = entries_of outcomes each in
        let P : List Outcome → Type 0 = λ os. IsExact run start os in
        record {
          part = record { scenario = scenario; entries = all.entries };
          of_scenario = refl;
          is = record { exact = subst P (sym all.same) exact; entries = all.are };
          same = all.same;
        }
