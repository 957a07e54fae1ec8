-- Parts of reports that are exact for the same runs and start trees end alike.
use Rattle.std.proofs.Common.{◌≡◌, List, [], ◌∷◌, map, Option, refl, sym, ap, ◌∙◌}
use Rattle.script_names.specs.declared.mark.Mark.{Mark}
use Rattle.feature_trees.specs.declared.value.Value.{Value}
use Rattle.dpkg_scenarios.specs.declared.scenario.Ending.{Ending}
use Rattle.scenario_runs.specs.declared.replayed.Replayed.{Replayed}
use Rattle.scenario_outcomes.specs.declared.outcome.Outcome.{Outcome}
use Rattle.scenario_outcomes.specs.Laws.{endings_and_traces}
use Rattle.scenario_outcomes.proofs.EndAlike.{exact_end_alike}
use Rattle.outcome_report.specs.declared.outcome_report.ReportEntry.{ReportEntry}
use Rattle.outcome_report.specs.OutcomeReport.{outcomes_of}
use Rattle.outcome_report.specs.Laws.{ending_and_trace, PartsEndAlike}

entries_told : (entries : List ReportEntry)
    → map ending_and_trace entries ≡ endings_and_traces (map (λ (entry : ReportEntry). entry.outcome) entries)
entries_told [] = refl
entries_told (entry ∷ entries) = ap (λ (ts : List (Ending × List Mark)). ending_and_trace entry ∷ ts) (entries_told entries)

pub parts_end_alike : (run : Value → Option Replayed) (start : Value → Type 0) → PartsEndAlike run start
parts_end_alike run start one other a b same =
    let told = entries_told one.entries
    ∙ exact_end_alike run start (outcomes_of one) (outcomes_of other) a.exact b.exact ∙ sym (entries_told other.entries) in
    λ i. (same i, told i)
