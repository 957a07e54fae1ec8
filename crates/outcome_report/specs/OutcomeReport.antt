-- What it is for a part of a report to be a scenario's, and the verdict of a report.
use Rattle.std.specs.Prelude.{◌≡◌, ℕ, List, [], ◌∷◌, map, Bool, true, ◌==◌, Option, Some}
use Rattle.std.specs.Prelude.{Result, Ok, Err}
use Rattle.std.specs.List.{list_any}
use Rattle.feature_trees.specs.declared.value.Value.{Value}
use Rattle.dpkg_scenarios.specs.Verdicts.{ending_verdict, joint_verdict}
use Rattle.scenario_runs.specs.declared.replayed.Replayed.{Replayed}
use Rattle.scenario_outcomes.specs.declared.outcome.Outcome.{Outcome}
use Rattle.scenario_outcomes.specs.declared.outcome.OutcomesFault.{OutcomesFault}
use Rattle.scenario_outcomes.specs.Outcomes.{IsExact, SomeStarts, AreFew, Answers}
use Rattle.outcome_report.specs.declared.outcome_report.ReportEntry.{ReportEntry}
use Rattle.outcome_report.specs.declared.outcome_report.ReportPart.{ReportPart}
use Rattle.outcome_report.specs.declared.outcome_report.Report.{Report}
use Rattle.outcome_report.specs.Kept.{replay_of}

-- ---- entries

-- the replay ends as the outcome says, with its trace
pub record Agrees (entry : ReportEntry) : Type 0 where
  pub ending : entry.replayed.ending ≡ entry.outcome.ending
  pub trace : entry.replayed.trace ≡ entry.outcome.trace

-- the entry has what is kept of the run from the tree that its outcome shows, that run ends as the outcome says, and
-- the entry says so
pub record IsEntryOf (run : Value → Option Replayed) (entry : ReportEntry) : Type 0 where
  pub whole : Replayed
  pub replayed : run entry.outcome.shown ≡ Some whole
  pub kept : entry.replayed ≡ replay_of whole
  pub agrees : Agrees entry
  pub confirmed : entry.confirmed ≡ true

-- each of them is an entry of these runs
abbrev pub AllEntries : (Value → Option Replayed) → List ReportEntry → Type 0
AllEntries run [] = Unit {0}
AllEntries run (entry ∷ entries) = IsEntryOf run entry × AllEntries run entries

-- ---- parts

-- the outcomes of a part of the report
abbrev pub outcomes_of : ReportPart → List Outcome
outcomes_of part = map (λ entry. entry.outcome) part.entries

-- the part is exact for the runs from the start trees, and each of its entries has its replay
pub record IsPart (run : Value → Option Replayed) (start : Value → Type 0) (part : ReportPart) : Type 0 where
  pub exact : IsExact run start (outcomes_of part)
  pub entries : AllEntries run part.entries

-- The answer: the part, where there is a start tree and there are no more traces than the limit; and a fault exactly as
-- for the outcomes alone.
abbrev pub PartAnswers :
    (Value → Option Replayed) → (Value → Type 0) → ℕ → Result ReportPart OutcomesFault → Type 0
PartAnswers run start limit (Ok part) = IsPart run start part × SomeStarts start × AreFew run start limit
PartAnswers run start limit (Err fault) = Answers run start limit (Err fault)

-- ---- the verdict

-- some outcome of the part has this verdict
abbrev pub part_has : ℕ → ReportPart → Bool
part_has verdict part = list_any (λ entry. ending_verdict entry.outcome.ending == verdict) part.entries

-- some outcome of the report has this verdict
abbrev pub report_has : ℕ → Report → Bool
report_has verdict report = list_any (part_has verdict) report.parts

-- the verdict of a report
abbrev pub verdict_of : Report → ℕ
verdict_of report = joint_verdict (report_has 1 report) (report_has 2 report)
