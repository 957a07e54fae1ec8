-- How a part of a report is told of the paths of a job, wholly or briefly.
use Rattle.std.specs.Prelude.{◌≡◌, ℕ, suc, ◌||◌, ◌==◌, List, [], ◌∷◌, ◌++◌, map, Option}
use Rattle.std.specs.List.{flat_map}
use Rattle.feature_trees.specs.declared.value.Value.{Value}
use Rattle.dpkg_scenarios.specs.declared.scenario.Scenario.{Scenario}
use Rattle.scenario_runs.specs.declared.replayed.Replayed.{Replayed}
use Rattle.scenario_outcomes.specs.declared.outcome.Outcome.{Outcome}
use Rattle.scenario_outcomes.specs.OutcomeOf.{Path, IsOutcomeOf, AreOutcomes}
use Rattle.outcome_report.specs.declared.outcome_report.ReportEntry.{ReportEntry}
use Rattle.report_text.specs.declared.places.EndPlace.{EndPlace}
use Rattle.report_text.specs.declared.told_part.Telling.{Telling}
use Rattle.report_text.specs.declared.told_part.Telling.TheVariants.{Wholly, Briefly}
use Rattle.report_text.specs.declared.told_part.ToldPart.{ToldPart}
use Rattle.report_text.specs.Counting.{as_list}
use Rattle.outcome_report.specs.OutcomeReport.{IsEntryOf, AllEntries}
use Rattle.dpkg_scenarios.specs.Verdicts.{ending_verdict}
use Rattle.report_text.specs.BriefText.{brief_entry}
use Rattle.report_text.specs.Places.{entry_place, place_counts}
use Rattle.report_text.specs.PlaceText.{place_line}
use Rattle.outcome_report.specs.Replays.{Replays}
use Rattle.report_text.specs.ReportText.{entry_text}
use Rattle.report_text.specs.Told.{Tells}
use Rattle.report_text.specs.Whole.{IsRepresentableEntry}

-- ---- what has to be known of paths

-- whatever outcome the path at this place is told as, the run from the tree that it shows ends as it says
abbrev pub PathReplays : (Value → Option Replayed) → ℕ → Path → Type 0
PathReplays run place path = (outcome : Outcome) → IsOutcomeOf place path outcome → Replays run outcome

-- whatever outcome each of these paths is told as, the run from the tree that it shows ends as it says; the first path
-- stands at this place
abbrev pub PathsReplay : (Value → Option Replayed) → ℕ → List Path → Type 0
PathsReplay run place [] = Unit {0}
PathsReplay run place (path ∷ paths) = PathReplays run place path × PathsReplay run (suc place) paths

-- ---- the lines

-- the lines of an entry that is told so
abbrev pub entry_lines : Telling → ReportEntry → List ℕ
entry_lines Wholly entry = entry_text entry
entry_lines Briefly entry = brief_entry entry

-- the lines behind the entries, where their outcomes that aren't done end at these places
abbrev pub end_lines : Telling → List EndPlace → List ℕ
end_lines Wholly places = flat_map place_line (place_counts places)
end_lines Briefly places = []

-- ---- one more outcome

-- one more entry is told: its lines, the place where its outcome ends, unless it is done, and what that makes of the
-- verdict
pub record AddsEntry (telling : Telling) (entry : ReportEntry) (old new : ToldPart) (places more : List EndPlace)
    : Type 0 where
  pub representable : IsRepresentableEntry entry
  pub text : new.text ≡ old.text ++ entry_lines telling entry
  pub places_are : more ≡ places ++ as_list (entry_place entry)
  pub failed : new.failed ≡ (old.failed || (ending_verdict entry.outcome.ending == 1))
  pub unfinished : new.unfinished ≡ (old.unfinished || (ending_verdict entry.outcome.ending == 2))

-- an entry of the path at this place is
pub record AddsPath (telling : Telling) (run : Value → Option Replayed) (place : ℕ) (path : Path)
    (old new : ToldPart) (places more : List EndPlace) : Type 0 where
  pub entry : ReportEntry
  pub outcome : IsOutcomeOf place path entry.outcome
  pub is : IsEntryOf run entry
  pub adds : AddsEntry telling entry old new places more

-- ---- all outcomes

-- what is told of a part on the scenario whose entries are those of the paths
pub record TellsPaths (telling : Telling) (run : Value → Option Replayed) (scenario : Scenario) (paths : List Path)
    (told : ToldPart) : Type 0 where
  pub entries : List ReportEntry
  pub outcomes : AreOutcomes 0 paths (map (λ (entry : ReportEntry). entry.outcome) entries)
  pub are : AllEntries run entries
  pub tells : Tells telling (record { scenario = scenario; entries = entries }) told
