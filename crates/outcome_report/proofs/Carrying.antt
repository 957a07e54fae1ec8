-- Parts of a report carry over to equal runs and start trees. It is a lemma, for the proofs of the crates above, since
-- it speaks of all predicates of trees, as no clause can.
use Rattle.std.proofs.Common.{◌≡◌, List, [], ◌∷◌, Option, Ok, Err, sym, ◌∙◌}
use Rattle.feature_trees.specs.declared.value.Value.{Value}
use Rattle.scenario_runs.specs.declared.replayed.Replayed.{Replayed}
use Rattle.scenario_outcomes.proofs.Carrying.{answers_carry_over}
use Rattle.outcome_report.specs.declared.outcome_report.ReportEntry.{ReportEntry}
use Rattle.outcome_report.specs.OutcomeReport.{IsEntryOf, AllEntries, outcomes_of}
use Rattle.outcome_report.specs.Laws.{PartsCarryOver}

module _ (run other : Value → Option Replayed) (same : (tree : Value) → run tree ≡ other tree) where
  entry_carries : (entry : ReportEntry) → IsEntryOf run entry → IsEntryOf other entry
  entry_carries entry is = record {
    whole = is.whole;
    replayed = sym (same entry.outcome.shown) ∙ is.replayed;
    kept = is.kept;
    agrees = is.agrees;
    confirmed = is.confirmed;
  }

  pub entries_carry : (entries : List ReportEntry) → AllEntries run entries → AllEntries other entries
  entries_carry [] all = tt
  entries_carry (entry ∷ entries) all = (entry_carries entry all.0, entries_carry entries all.1)

pub parts_carry_over : (run other : Value → Option Replayed) (start from : Value → Type 0)
    → PartsCarryOver run other start from
parts_carry_over run other start from same limit (Ok part) answers =
    let carried = answers_carry_over run other start from same limit (Ok (outcomes_of part)) (answers.0.exact, answers.1, answers.2) in
    (record { exact = carried.0; entries = entries_carry run other same.runs part.entries answers.0.entries }, carried.1, carried.2)
parts_carry_over run other start from same limit (Err fault) answers =
    answers_carry_over run other start from same limit (Err fault) answers
