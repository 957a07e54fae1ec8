-- The entries of a part: outcomes that runs end as, and the runs from the trees that they show.
use Rattle.std.proofs.Common.{◌≡◌, ℕ, suc, List, [], ◌∷◌, ◌++◌, map, Option, Some, IsTrue, refl, sym, ap, ◌∙◌, subst}
use Rattle.std.specs.List.{slice_get}
use Rattle.feature_trees.specs.declared.value.Value.{Value}
use Rattle.feature_trees.specs.declared.kind.Kind.TheVariants.{Dir}
use Rattle.feature_trees.specs.Tree.{kind_of}
use Rattle.tree_clauses.specs.Literals.{CoversTree}
use Rattle.scenario_runs.specs.declared.replayed.Replayed.{Replayed}
use Rattle.scenario_outcomes.specs.declared.outcome.Outcome.{Outcome}
use Rattle.scenario_outcomes.specs.Outcomes.{IsExact}
use Rattle.outcome_report.specs.declared.outcome_report.ReportEntry.{ReportEntry}
use Rattle.outcome_report.specs.declared.replay.Replay.{Replay}
use Rattle.outcome_report.specs.Kept.{replay_of}
use Rattle.outcome_report.specs.OutcomeReport.{Agrees, IsEntryOf, AllEntries}
use Rattle.outcome_report.specs.Replays.{Replays, AllReplay}

-- ---- exact outcomes are replayed

each_replays : (run : Value → Option Replayed) (outcomes : List Outcome)
    → ((place : ℕ) (outcome : Outcome) → slice_get outcomes place ≡ Some outcome → Replays run outcome)
    → AllReplay run outcomes
each_replays run [] each = tt
each_replays run (outcome ∷ outcomes) each =
    (each 0 outcome refl, each_replays run outcomes (λ place other at. each (suc place) other at))

pub same_run : (o : Option Replayed) (a b : Replayed) → o ≡ Some a → o ≡ Some b → a ≡ b
same_run o a b p q = cc

module _ (run : Value → Option Replayed) (start : Value → Type 0) (dirs : (tree : Value) → start tree → kind_of tree ≡ Dir) where
  pub replays_at : (outcomes : List Outcome) → IsExact run start outcomes → (place : ℕ) (outcome : Outcome)
      → slice_get outcomes place ≡ Some outcome → Replays run outcome
  replays_at outcomes exact place outcome at =
      let covers : CoversTree outcome.clause outcome.shown = exact.shown place outcome at in
      let both = exact.runs place outcome outcome.shown covers.0 at covers.1 in
      let ends = both.1 in
      record {
        dir = dirs outcome.shown both.0;
        ending = λ replayed is_run.
            ap (λ (r : Replayed). r.ending) (same_run (run outcome.shown) replayed ends.replayed is_run ends.is_run) ∙ ends.ending;
        trace = λ replayed is_run.
            ap (λ (r : Replayed). r.trace) (same_run (run outcome.shown) replayed ends.replayed is_run ends.is_run) ∙ ends.trace;
      }

  pub all_replay : (outcomes : List Outcome) → IsExact run start outcomes → AllReplay run outcomes
  all_replay outcomes exact = each_replays run outcomes (replays_at outcomes exact)

-- ---- one more entry

pub entries_more : (run : Value → Option Replayed) (old : List ReportEntry) (entry : ReportEntry) → AllEntries run old
    → IsEntryOf run entry → AllEntries run (old ++ entry ∷ [])
entries_more run [] entry all one = (one, tt)
entries_more run (e ∷ es) entry all one = (all.0, entries_more run es entry all.1 one)

outcomes_more : (old : List ReportEntry) (entry : ReportEntry) (rest : List Outcome)
    → map (λ (e : ReportEntry). e.outcome) (old ++ entry ∷ []) ++ rest
    ≡ map (λ (e : ReportEntry). e.outcome) old ++ (entry.outcome ∷ rest)
outcomes_more [] entry rest = refl
outcomes_more (e ∷ es) entry rest = ap (λ (l : List Outcome). e.outcome ∷ l) (outcomes_more es entry rest)

-- the entries so far, and what is left
pub record EntriesSoFar (run : Value → Option Replayed) (all : List Outcome) (made : List ReportEntry) (rest : List Outcome) : Type 0 where
  pub joined : map (λ (e : ReportEntry). e.outcome) made ++ rest ≡ all
  pub left : AllReplay run rest
  pub entries : AllEntries run made

-- the next one that is left shows a directory
pub next_dir : (run : Value → Option Replayed) (all : List Outcome) (made : List ReportEntry) (before rest : List Outcome)
    (outcome : Outcome) → before ≡ outcome ∷ rest → EntriesSoFar run all made before → kind_of outcome.shown ≡ Dir
next_dir run all made before rest outcome next so_far =
    let Q : List Outcome → Type 0 = λ os. EntriesSoFar run all made os in
    (subst Q next so_far).left.0.dir

module _ (run : Value → Option Replayed) (entry : ReportEntry) (outcome : Outcome)
    (same : entry.outcome ≡ outcome) (whole : Replayed) (replayed : run outcome.shown ≡ Some whole) (kept : entry.replayed ≡ replay_of whole)
    (confirms : Agrees entry → IsTrue entry.confirmed) where
  agrees : Replays run outcome → Agrees entry
  agrees is = record {
    ending = ap (λ (r : Replay). r.ending) kept ∙ is.ending whole replayed ∙ ap (λ (o : Outcome). o.ending) (sym same);
    trace = ap (λ (r : Replay). r.trace) kept ∙ is.trace whole replayed ∙ ap (λ (o : Outcome). o.trace) (sym same);
  }

  pub is_entry : Replays run outcome → IsEntryOf run entry
  is_entry is = record {
    whole = whole;
    replayed = ap (λ (o : Outcome). run o.shown) same ∙ replayed;
    kept = kept;
    agrees = agrees is;
    confirmed = confirms (agrees is);
  }

  module _ (all : List Outcome) (old : List ReportEntry) where
    step : (rest : List Outcome) → EntriesSoFar run all old (outcome ∷ rest) → EntriesSoFar run all (old ++ entry ∷ []) rest
    step rest so_far = record {
      joined = outcomes_more old entry rest
          ∙ ap (λ (o : Outcome). map (λ (e : ReportEntry). e.outcome) old ++ (o ∷ rest)) same ∙ so_far.joined;
      left = so_far.left.1;
      entries = entries_more run old entry so_far.entries (is_entry so_far.left.0);
    }

    pub one_more : (new : List ReportEntry) (before rest : List Outcome) → new ≡ old ++ entry ∷ [] → before ≡ outcome ∷ rest
        → EntriesSoFar run all old before → EntriesSoFar run all new rest
    one_more new before rest added next so_far =
        let P : List ReportEntry → Type 0 = λ es. EntriesSoFar run all es rest in
        let Q : List Outcome → Type 0 = λ os. EntriesSoFar run all old os in
        subst P (sym added) (step rest (subst Q next so_far))
