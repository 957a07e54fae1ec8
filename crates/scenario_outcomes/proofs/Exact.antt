-- From the paths of a scenario to its outcomes.
use Rattle.std.proofs.Common.{◌≡◌, ◌≢◌, ◌↔◌, ◌+◌, ◌<◌, ◌≤◌, ℕ, zero, suc, List, [], ◌∷◌, ◌++◌, Option, Some, slice_get, length, refl, sym, ◌∙◌, ap, subst, inl, inr, arith, append_assoc, length-append}
use Rattle.script_names.specs.declared.mark.Mark.{Mark}
use Rattle.feature_trees.specs.declared.value.Value.{Value}
use Rattle.tree_clauses.specs.Literals.{Covers}
use Rattle.clause_solver.specs.Stands.{Seen}
use Rattle.clause_solver.specs.Pairs.{HasPair}
use Rattle.utility_calls.specs.Walks.{Walk, Walked, walk, fresh}
use Rattle.case_paths.specs.Traces as order
use Rattle.case_paths.specs.Paths as paths_of
use Rattle.case_paths.specs.Paths.{IsAt, AreThePaths, AllAlive, states, traces, AllPlayed}
use Rattle.dpkg_scenarios.specs.declared.scenario.Ending.{Ending}
use Rattle.scenario_runs.specs.declared.call.ScriptCall.{ScriptCall}
use Rattle.scenario_runs.specs.declared.replayed.Replayed.{Replayed}
use Rattle.scenario_runs.specs.Laws.{replayed_of}
use Rattle.scenario_outcomes.specs.declared.outcome.Outcome.{Outcome}
use Rattle.scenario_outcomes.specs.OutcomeOf.{Path, IsOutcomeOf, AreOutcomes}
use Rattle.scenario_outcomes.specs.Outcomes.{CoversOnce, EndsAs, IsExact, TraceBelow, Rising, IsTrace, AreTraces, IsNone, Differ, AreTooMany, AreFew}
use Rattle.scenario_outcomes.proofs.Counting.{In, AllIn, no_more}
use Rattle.scenario_runs.proofs.Turning.{same_run as some_same}

-- ---- the outcomes of a list of paths

-- one more
pub outcomes_more : (place at : ℕ) (paths : List Path) (outcomes : List Outcome) (path : Path) (outcome : Outcome)
    → AreOutcomes place paths outcomes → at ≡ place + length outcomes → IsOutcomeOf at path outcome → AreOutcomes place (paths ++ path ∷ []) (outcomes ++ outcome ∷ [])
outcomes_more place at [] [] path outcome all e one =
    let P : ℕ → Type 0 = λ n. IsOutcomeOf n path outcome in
    let same : at ≡ place = omega (arith, e) in
    (subst P same one, tt)
outcomes_more place at [] (o ∷ os) path outcome all e one = absurd all
outcomes_more place at (x ∷ xs) [] path outcome all e one = absurd all
outcomes_more place at (x ∷ xs) (o ∷ os) path outcome all e one =
    let next : at ≡ suc place + length os = omega (arith, e) in
    (all.0, outcomes_more (suc place) at xs os path outcome all.1 next one)

-- an outcome at a place has its path there
pub record PathAt (place at : ℕ) (paths : List Path) (outcome : Outcome) : Type 0 where
  pub path : Path
  pub there : IsAt paths at path
  pub is : IsOutcomeOf (place + at) path outcome

path_at : (place at : ℕ) (paths : List Path) (outcomes : List Outcome) (outcome : Outcome) → AreOutcomes place paths outcomes
    → slice_get outcomes at ≡ Some outcome → PathAt place at paths outcome
path_at place at [] [] outcome all e = none at e
  where
    none : (at : ℕ) → slice_get [] at ≡ Some outcome → PathAt place at [] outcome
    none zero e = absurd (cc)
    none (suc at) e = absurd (cc)
path_at place at [] (o ∷ os) outcome all e = absurd all
path_at place at (x ∷ xs) [] outcome all e = absurd all
path_at place zero (x ∷ xs) (o ∷ os) outcome all e =
    let P : Outcome → Type 0 = λ q. IsOutcomeOf (place + 0) x q in
    let Q : ℕ → Type 0 = λ n. IsOutcomeOf n x o in
    let same : o ≡ outcome = some_same o outcome e in
    record { path = x; there = refl; is = subst P same (subst Q (omega arith) all.0) }
  where
    some_same : (a b : Outcome) → Some a ≡ Some b → a ≡ b
    some_same a b e = cc
path_at place (suc at) (x ∷ xs) (o ∷ os) outcome all e =
    let rest = path_at (suc place) at xs os outcome all.1 e in
    let Q : ℕ → Type 0 = λ n. IsOutcomeOf n rest.path outcome in
    record { path = rest.path; there = rest.there; is = subst Q (omega arith) rest.is }

-- a path at a place has its outcome there
pub record OutcomeAt (place at : ℕ) (path : Path) (outcomes : List Outcome) : Type 0 where
  pub outcome : Outcome
  pub there : slice_get outcomes at ≡ Some outcome
  pub is : IsOutcomeOf (place + at) path outcome

outcome_at : (place at : ℕ) (paths : List Path) (outcomes : List Outcome) (path : Path) → AreOutcomes place paths outcomes
    → IsAt paths at path → OutcomeAt place at path outcomes
outcome_at place at [] [] path all there = absurd there
outcome_at place at [] (o ∷ os) path all there = absurd all
outcome_at place at (x ∷ xs) [] path all there = absurd all
outcome_at place zero (x ∷ xs) (o ∷ os) path all there =
    let P : Path → Type 0 = λ y. IsOutcomeOf (place + 0) y o in
    let Q : ℕ → Type 0 = λ n. IsOutcomeOf n x o in
    record { outcome = o; there = refl; is = subst P there (subst Q (omega arith) all.0) }
outcome_at place (suc at) (x ∷ xs) (o ∷ os) path all there =
    let rest = outcome_at (suc place) at xs os path all.1 there in
    let Q : ℕ → Type 0 = λ n. IsOutcomeOf n path rest.outcome in
    record { outcome = rest.outcome; there = rest.there; is = subst Q (omega arith) rest.is }

-- ---- traces that part at an act rise, and differ

apart : (front more others : List Mark) (low high : Mark) → low.site ≡ high.site → low.row < high.row → TraceBelow ((front ++ low ∷ []) ++ more) ((front ++ high ∷ []) ++ others)
apart [] more others low high same less = inl (inr (ap (λ s. s.step) same, inr (ap (λ s. s.at) same, less)))
apart (mark ∷ front) more others low high same less = inr (refl, apart front more others low high same less)

trace_below : (a b : List Mark) → order.Before a b → TraceBelow a b
trace_below a b before =
    let P : List Mark → Type 0 = λ t. TraceBelow t b in
    let Q : List Mark → Type 0 = λ t. TraceBelow ((before.front ++ before.low ∷ []) ++ before.first.more) t in
    subst P (sym before.first.is) (subst Q (sym before.second.is) (apart before.front before.first.more before.second.more before.low before.high before.same before.less))

rises : (place : ℕ) (paths : List Path) (outcomes : List Outcome) → AreOutcomes place paths outcomes → order.Rising (traces (states paths)) → Rising outcomes
rises place [] [] all rising = tt
rises place [] (o ∷ os) all rising = absurd all
rises place (x ∷ xs) [] all rising = absurd all
rises place (x ∷ []) (o ∷ []) all rising = tt
rises place (x ∷ []) (o ∷ p ∷ os) all rising = absurd all.1
rises place (x ∷ y ∷ xs) (o ∷ []) all rising = absurd all.1
rises place (x ∷ y ∷ xs) (o ∷ p ∷ os) all rising =
    let below = trace_below x.state.trace y.state.trace rising.0.0 in
    let P : List Mark → Type 0 = λ t. TraceBelow t p.trace in
    let Q : List Mark → Type 0 = λ t. TraceBelow x.state.trace t in
    (subst P (sym all.0.trace) (subst Q (sym all.1.0.trace) below), rises (suc place) (y ∷ xs) (p ∷ os) all.1 rising.1)

-- no trace comes before itself
pub below_other : (a : List Mark) → TraceBelow a a → ⊥
below_other [] b = b
below_other (mark ∷ a) (inl (inl less)) = absurd (omega (arith, less))
below_other (mark ∷ a) (inl (inr (e, inl less))) = absurd (omega (arith, less))
below_other (mark ∷ a) (inl (inr (e, inr (f, less)))) = absurd (omega (arith, less))
below_other (mark ∷ a) (inr (e, b)) = below_other a b

other : (a b : List Mark) → order.Before a b → a ≢ b
other a b before e =
    let P : List Mark → Type 0 = λ t. TraceBelow a t in
    below_other a (subst P (sym e) (trace_below a b before))

none_after : (trace : List Mark) (others : List (List Mark)) → order.AllAfter trace others → IsNone trace others
none_after trace [] h = tt
none_after trace (x ∷ others) h = (other trace x h.0, none_after trace others h.1)

pub differ : (ts : List (List Mark)) → order.Rising ts → Differ ts
differ [] h = tt
differ (t ∷ ts) h = (none_after t ts h.0, differ ts h.1)

-- ---- exact

-- a path's trace is one of the traces
trace_in : (paths : List Path) (at : ℕ) (path : Path) (trace : List Mark) → IsAt paths at path → trace ≡ path.state.trace → In trace (traces (states paths))
trace_in [] at path trace there e = absurd there
trace_in (x ∷ xs) zero path trace there e = inl (e ∙ ap (λ (y : Path). y.state.trace) (sym there))
trace_in (x ∷ xs) (suc at) path trace there e = inr (trace_in xs at path trace there e)

as_many : (paths : List Path) → length (traces (states paths)) ≡ length paths
as_many [] = refl
as_many (x ∷ xs) = ap suc (as_many xs)

module _ (run : Value → Option Replayed) (start : Value → Type 0) (d : Walk (Ending × List ScriptCall)) (s : Seen)
    (played : (tree : Value) → run tree ≡ Some (replayed_of (walk d (fresh tree) [] [])))
    (starts : (t u : Value) → HasPair s t u ↔ (start t × (u ≡ t))) where
  -- what is walked from a start tree
  abbrev from : Value → Walked (Ending × List ScriptCall)
  from tree = walk d (fresh tree) [] []

  module _ (paths : List Path) (outcomes : List Outcome) (are : AreThePaths d s paths) (made : AreOutcomes 0 paths outcomes) where
    covers_once : (tree : Value) → start tree → CoversOnce outcomes tree
    covers_once tree is =
        let one = are.once tree tree ((starts tree tree).1 (is, refl)) in
        let found = outcome_at 0 one.place paths outcomes one.path made one.is_there in
        record {
          place = one.place;
          covers = record { outcome = found.outcome; at = found.there; covers = ((from tree).world.tree, (found.is.covers tree (from tree).world.tree).1 one.has) };
          alone = λ place covers.
              let back = path_at 0 place paths outcomes covers.outcome made covers.at in
              one.alone place back.path covers.covers.0 back.there ((back.is.covers tree covers.covers.0).0 covers.covers.1);
        }

    -- the run from a start tree, given the path that it is on
    ends_as : (tree u now : Value) (path : Path) (outcome : Outcome) (place : ℕ) → IsOutcomeOf place path outcome → u ≡ tree
        → paths_of.EndsAs (from u) path now → EndsAs run outcome tree now
    ends_as tree u now path outcome place is e ends =
        let here : from u ≡ from tree = ap from e in
        record {
          replayed = replayed_of (from tree);
          is_run = played tree;
          ending = ap (λ (p : Walked (Ending × List ScriptCall)). p.value.0) (sym here) ∙ ap (λ (v : Ending × List ScriptCall). v.0) (sym ends.value) ∙ sym is.ending;
          trace = ap (λ (p : Walked (Ending × List ScriptCall)). p.trace) (sym here) ∙ sym ends.trace ∙ sym is.trace;
          after = ap (λ (p : Walked (Ending × List ScriptCall)). p.world.tree) (sym here) ∙ sym ends.tree;
        }

    covered_runs : (place : ℕ) (outcome : Outcome) (tree now : Value) → slice_get outcomes place ≡ Some outcome → Covers outcome.clause tree now → start tree × EndsAs run outcome tree now
    covered_runs place outcome tree now at covers =
        let back = path_at 0 place paths outcomes outcome made at in
        let before = are.none_else place back.path tree now back.there ((back.is.covers tree now).0 covers) in
        let pair = (starts tree before.0).0 before.1 in
        (pair.0, ends_as tree before.0 now back.path outcome (0 + place) back.is pair.1 before.2)

    pub exact : IsExact run start outcomes
    exact = record {
      once = covers_once;
      runs = covered_runs;
      shown = λ place outcome at.
          let back = path_at 0 place paths outcomes outcome made at in
          (back.is.shown.0, (back.is.covers outcome.shown back.is.shown.0).1 back.is.shown.1);
      rising = rises 0 paths outcomes made are.rising;
      numbered = λ place outcome at.
          let back = path_at 0 place paths outcomes outcome made at in
          omega (arith, back.is.number);
    }

  -- ---- how many traces there are

  module _ (paths : List Path) (are : AreThePaths d s paths) where
    trace_found : (trace : List Mark) → IsTrace run start trace → In trace (traces (states paths))
    trace_found trace is =
        let one = are.once is.tree is.tree ((starts is.tree is.tree).1 (is.is_start, refl)) in
        let same : is.replayed ≡ replayed_of (from is.tree) = some_same is.replayed (replayed_of (from is.tree)) (sym is.is_run ∙ played is.tree) in
        trace_in paths one.place one.path trace one.is_there (sym is.is_trace ∙ ap (λ (r : Replayed). r.trace) same ∙ sym one.ends.trace)

    all_found : (ts : List (List Mark)) → AreTraces run start ts → AllIn ts (traces (states paths))
    all_found [] h = tt
    all_found (t ∷ ts) h = (trace_found t h.0, all_found ts h.1)

    pub few : (limit : ℕ) → length paths ≤ limit → AreFew run start limit
    few limit le ts is differ =
        let n = no_more ts (traces (states paths)) differ (all_found ts is) in
        let m = as_many paths in
        omega (arith, n, m, le)

  are_traces : (ts : List (List Mark)) → AllPlayed d s ts → AreTraces run start ts
  are_traces [] h = tt
  are_traces (t ∷ ts) h =
      let pair = (starts h.0.0 h.0.1).0 h.0.2 in (
        record {
          tree = h.0.0;
          is_start = pair.0;
          replayed = replayed_of (from h.0.0);
          is_run = played h.0.0;
          is_trace = ap (λ (u : Value). (from u).trace) (sym pair.1) ∙ h.0.3;
        },
        are_traces ts h.1,
      )

  pub too_many : (limit : ℕ) → paths_of.AreTooMany d s limit → AreTooMany run start limit
  too_many limit h = record { traces = h.traces; are = are_traces h.traces h.played; differ = differ h.traces h.rising; count = h.count }

-- ---- the outcomes so far

-- the outcomes so far, of the paths that were passed, and the paths that are left
pub record OutcomesSoFar (all passed left : List Path) (outcomes : List Outcome) (place : ℕ) : Type 0 where
  pub joined : passed ++ left ≡ all
  pub made : AreOutcomes 0 passed outcomes
  pub counted : place ≡ length outcomes
  pub same_count : length outcomes ≡ length passed
  pub alive : AllAlive (states left)

pub outcomes_step : (all passed before left : List Path) (path : Path) (outcomes made : List Outcome) (outcome : Outcome) (place : ℕ)
    → before ≡ path ∷ left → made ≡ outcomes ++ outcome ∷ [] → IsOutcomeOf place path outcome
    → OutcomesSoFar all passed before outcomes place → OutcomesSoFar all (passed ++ path ∷ []) left made (place + 1)
outcomes_step all passed before left path outcomes made outcome place next added is so_far =
    let P : List Outcome → Type 0 = λ os. OutcomesSoFar all (passed ++ path ∷ []) left os (place + 1) in
    let A : List Path → Type 0 = λ xs. AllAlive (states xs) in
    let alive : A (path ∷ left) = subst A next so_far.alive in
    let there : P (outcomes ++ outcome ∷ []) = record {
      joined = append_assoc passed (path ∷ []) left ∙ ap (λ (xs : List Path). passed ++ xs) (sym next) ∙ so_far.joined;
      made = outcomes_more 0 place passed outcomes path outcome so_far.made (omega (arith, so_far.counted)) is;
      counted = omega (arith, so_far.counted, length-append outcomes (outcome ∷ []));
      same_count = omega (arith, so_far.same_count, length-append outcomes (outcome ∷ []), length-append passed (path ∷ []));
      alive = alive.1;
    } in
    subst P (sym added) there
