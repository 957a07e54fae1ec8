-- That the picks of a part's clauses tell how the runs end.
use Rattle.std.proofs.Common.{◌≡◌, ℕ, zero, suc, ◌+◌, ◌<◌, arith, List, [], ◌∷◌, All, length, map, get_or, Option, None, Some, refl, sym, subst, ap, ◌∙◌}
use Rattle.std.specs.Prelude.{slice_get}
use Rattle.feature_trees.specs.declared.value.Value.{Value}
use Rattle.tree_clauses.specs.declared.clause.Clause.{Clause}
use Rattle.tree_clauses.specs.Literals.{CoversTree}
use Rattle.scenario_runs.specs.declared.replayed.Replayed.{Replayed}
use Rattle.scenario_outcomes.specs.declared.outcome.Outcome.{Outcome}
use Rattle.scenario_outcomes.specs.Outcomes.{CoversAt, CoversOnce}
use Rattle.outcome_report.specs.declared.outcome_report.ReportEntry.{ReportEntry}
use Rattle.outcome_report.specs.declared.outcome_report.ReportPart.{ReportPart}
use Rattle.outcome_report.specs.OutcomeReport.{IsPart, outcomes_of}
use Rattle.tree_predictions.specs.Picks.{IsPick, IsFirst}
use Rattle.prediction_text.specs.PredictionText.{clauses_of, entry_clauses}
use Rattle.prediction_text.specs.Laws.{PicksRun, PredictionsTellRuns}

-- the clause at a place is that of the outcome there
clause_of : (entries : List ReportEntry) (k : ℕ) (outcome : Outcome) → slice_get (map (λ (entry : ReportEntry). entry.outcome) entries) k ≡ Some outcome → (d : Clause)
    → get_or (entry_clauses entries) k d ≡ outcome.clause
clause_of [] k outcome e d = cc
clause_of (entry ∷ entries) zero outcome e d = cc
clause_of (entry ∷ entries) (suc k) outcome e d = clause_of entries k outcome e d

-- at each place of the clauses stands an outcome
outcome_at : (entries : List ReportEntry) (k : ℕ) → k < length (entry_clauses entries)
    → (outcome : Outcome) × (slice_get (map (λ (entry : ReportEntry). entry.outcome) entries) k ≡ Some outcome)
outcome_at [] k lt = absurd (let bad : k < 0 = lt in omega (arith, bad))
outcome_at (entry ∷ entries) zero lt = (entry.outcome, refl)
outcome_at (entry ∷ entries) (suc k) lt = outcome_at entries k (omega (arith, lt))

within_of : (entries : List ReportEntry) (k : ℕ) (outcome : Outcome) → slice_get (map (λ (entry : ReportEntry). entry.outcome) entries) k ≡ Some outcome
    → k < length (entry_clauses entries)
within_of [] k outcome e = cc
within_of (entry ∷ entries) zero outcome e = omega arith
within_of (entry ∷ entries) (suc k) outcome e = let lt = within_of entries k outcome e in omega (arith, lt)

module _ (run : Value → Option Replayed) (start : Value → Type 0) (part : ReportPart) (tree : Value) (is : IsPart run start part) where
  -- a pick is the number of an outcome, whose clause covers the tree
  found : (n : ℕ) → IsFirst (λ clause. CoversTree clause tree) (clauses_of part) n → start tree × PicksRun run (outcomes_of part) tree (Some n)
  found n first =
      let there = outcome_at part.entries first.place first.within in
      let covers : CoversTree there.0.clause tree = subst (λ clause. CoversTree clause tree) (clause_of part.entries first.place there.0 there.1 there.0.clause) (first.holds there.0.clause) in
      let ends = is.exact.runs first.place there.0 tree covers.0 there.1 covers.1 in (
        ends.0,
        record {
          place = first.place;
          outcome = there.0;
          at = there.1;
          numbered = ap Some (first.counted ∙ sym (is.exact.numbered first.place there.0 there.1));
          counted = ap Some first.counted;
          now = covers.0;
          ends = ends.1;
        },
      )

  missed : All (λ clause. ¬ (CoversTree clause tree)) (clauses_of part) → ¬ (start tree)
  missed none begins =
      let once = is.exact.once tree begins in
      let at = once.covers in
      none once.place at.outcome.clause (within_of part.entries once.place at.outcome at.at)
      (subst (λ clause. CoversTree clause tree) (sym (clause_of part.entries once.place at.outcome at.at at.outcome.clause)) at.covers)

  pub tells : (pick : Option ℕ) → IsPick (clauses_of part) tree pick → (start tree → PicksRun run (outcomes_of part) tree pick) × (¬ (start tree) → pick ≡ None)
  tells None none = (λ begins. absurd (missed none begins), λ other. refl)
  tells (Some n) first = (λ begins. (found n first).1, λ other. absurd (other (found n first).0))

pub all_told : (run : Value → Option Replayed) (start : Value → Type 0) → PredictionsTellRuns run start
all_told run start = λ part tree pick is picked. tells run start part tree is pick picked
