-- Two lists of outcomes that are exact for the same runs and start trees end alike.
use Rattle.std.proofs.Common.{◌≡◌, ◌⊎◌, inl, inr, ℕ, zero, suc, ◌<◌, List, [], ◌∷◌, map, Option, Some, slice_get, refl, sym, ap, ◌∙◌, subst, arith}
use Rattle.script_names.specs.declared.mark.Mark.{Mark}
use Rattle.feature_trees.specs.declared.value.Value.{Value}
use Rattle.dpkg_scenarios.specs.declared.scenario.Ending.{Ending}
use Rattle.scenario_runs.specs.declared.replayed.Replayed.{Replayed}
use Rattle.scenario_runs.proofs.Turning.{same_run as some_same}
use Rattle.scenario_outcomes.specs.declared.outcome.Outcome.{Outcome}
use Rattle.scenario_outcomes.specs.Laws.{endings_and_traces, ExactListsEndAlike}
use Rattle.scenario_outcomes.specs.Outcomes.{EndsAs, IsExact, MarkBelow, TraceBelow, Rising}
use Rattle.scenario_outcomes.proofs.Exact.{below_other}

-- how an outcome ends, and its trace
abbrev Told : Type 0
Told = Ending × List Mark

abbrev told : Outcome → Told
told outcome = (outcome.ending, outcome.trace)

-- ---- traces that come one before another

mark_trans : (a b c : Mark) → MarkBelow a b → MarkBelow b c → MarkBelow a c
mark_trans a b c (inl p) (inl q) = inl (omega (arith, p, q))
mark_trans a b c (inl p) (inr q) = inl (omega (arith, p, q.0))
mark_trans a b c (inr p) (inl q) = inl (omega (arith, p.0, q))
mark_trans a b c (inr (p, inl r)) (inr (q, inl s)) = inr (p ∙ q, inl (omega (arith, r, s)))
mark_trans a b c (inr (p, inl r)) (inr (q, inr s)) = inr (p ∙ q, inl (omega (arith, r, s.0)))
mark_trans a b c (inr (p, inr r)) (inr (q, inl s)) = inr (p ∙ q, inl (omega (arith, r.0, s)))
mark_trans a b c (inr (p, inr r)) (inr (q, inr s)) = inr (p ∙ q, inr (r.0 ∙ s.0, omega (arith, r.1, s.1)))

trace_trans : (a b c : List Mark) → TraceBelow a b → TraceBelow b c → TraceBelow a c
trace_trans a [] c p q = absurd p
trace_trans a (y ∷ b) [] p q = absurd q
trace_trans [] (y ∷ b) (z ∷ c) p q = tt
trace_trans (x ∷ a) (y ∷ b) (z ∷ c) (inl p) (inl q) = inl (mark_trans x y z p q)
trace_trans (x ∷ a) (y ∷ b) (z ∷ c) (inl p) (inr q) = inl (subst (λ (m : Mark). MarkBelow x m) q.0 p)
trace_trans (x ∷ a) (y ∷ b) (z ∷ c) (inr p) (inl q) = inl (subst (λ (m : Mark). MarkBelow m z) (sym p.0) q)
trace_trans (x ∷ a) (y ∷ b) (z ∷ c) (inr p) (inr q) = inr (p.0 ∙ q.0, trace_trans a b c p.1 q.1)

-- the trace comes before each of these
abbrev Above : List Mark → List Told → Type 0
Above trace [] = Unit {0}
Above trace (t ∷ ts) = TraceBelow trace t.1 × Above trace ts

-- each trace comes before all behind it
abbrev AllRising : List Told → Type 0
AllRising [] = Unit {0}
AllRising (t ∷ ts) = Above t.1 ts × AllRising ts

above_from : (trace : List Mark) (o : Outcome) (os : List Outcome) → TraceBelow trace o.trace → Rising (o ∷ os)
    → Above trace (endings_and_traces (o ∷ os))
above_from trace o [] below rising = (below, tt)
above_from trace o (p ∷ os) below rising =
    (below, above_from trace p os (trace_trans trace o.trace p.trace below rising.0) rising.1)

all_rising : (os : List Outcome) → Rising os → AllRising (endings_and_traces os)
all_rising [] rising = tt
all_rising (o ∷ []) rising = (tt, tt)
all_rising (o ∷ p ∷ os) rising = (above_from o.trace p os rising.0 rising.1, all_rising (p ∷ os) rising.1)

-- ---- rising lists with the same members

-- it is one of these
abbrev In : Told → List Told → Type 0
In t [] = ⊥
In t (u ∷ us) = (t ≡ u) ⊎ In t us

-- each of these is one of those
abbrev AllIn : List Told → List Told → Type 0
AllIn [] us = Unit {0}
AllIn (t ∷ ts) us = In t us × AllIn ts us

above_in : (trace : List Mark) (ts : List Told) (t : Told) → Above trace ts → In t ts → TraceBelow trace t.1
above_in trace [] t above one = absurd one
above_in trace (u ∷ ts) t above (inl e) = subst (λ (x : Told). TraceBelow trace x.1) (sym e) above.0
above_in trace (u ∷ ts) t above (inr one) = above_in trace ts t above.1 one

not_first : (t u : Told) (us : List Told) → TraceBelow u.1 t.1 → In t (u ∷ us) → In t us
not_first t u us below (inl e) = absurd (below_other u.1 (subst (λ (x : Told). TraceBelow u.1 x.1) e below))
not_first t u us below (inr one) = one

behind : (u : Told) (ts us : List Told) → Above u.1 ts → AllIn ts (u ∷ us) → AllIn ts us
behind u [] us above all = tt
behind u (t ∷ ts) us above all = (not_first t u us above.0 all.0, behind u ts us above.1 all.1)

same_first : (t u : Told) (ts us : List Told) → Above t.1 ts → Above u.1 us → In t (u ∷ us) → In u (t ∷ ts) → t ≡ u
same_first t u ts us low high (inl e) other = e
same_first t u ts us low high (inr one) (inl e) = sym e
same_first t u ts us low high (inr one) (inr other) =
    absurd (below_other t.1 (trace_trans t.1 u.1 t.1 (above_in t.1 ts u low other) (above_in u.1 us t high one)))

same_lists : (ts us : List Told) → AllRising ts → AllRising us → AllIn ts us → AllIn us ts → ts ≡ us
same_lists [] [] low high all each = refl
same_lists [] (u ∷ us) low high all each = absurd each.0
same_lists (t ∷ ts) [] low high all each = absurd all.0
same_lists (t ∷ ts) (u ∷ us) low high all each =
    let first = same_first t u ts us low.0 high.0 all.0 each.0 in
    let rest = same_lists ts us low.1 high.1
    (behind u ts us (subst (λ (x : Told). Above x.1 ts) first low.0) all.1)
    (behind t us ts (subst (λ (x : Told). Above x.1 us) (sym first) high.0) each.1) in
    λ i. first i ∷ rest i

-- ---- the outcomes of one list end as those of another

told_in : (os : List Outcome) (place : ℕ) (o : Outcome) → slice_get os place ≡ Some o → In (told o) (endings_and_traces os)
told_in [] zero o e = absurd (cc e)
told_in [] (suc place) o e = absurd (cc e)
told_in (p ∷ os) zero o e = inl (ap told (sym (same p o e)))
  where
    same : (a b : Outcome) → Some a ≡ Some b → a ≡ b
    same a b e = cc
told_in (p ∷ os) (suc place) o e = inr (told_in os place o e)

each_in : (os : List Outcome) (us : List Told)
    → ((place : ℕ) (o : Outcome) → slice_get os place ≡ Some o → In (told o) us) → AllIn (endings_and_traces os) us
each_in [] us each = tt
each_in (o ∷ os) us each = (each zero o refl, each_in os us (λ place p at. each (suc place) p at))

module _ (run : Value → Option Replayed) (start : Value → Type 0) where
  -- outcomes that the run from one tree ends as are told alike
  told_alike : (a b : Outcome) (tree now after : Value) → EndsAs run a tree now → EndsAs run b tree after → told a ≡ told b
  told_alike a b tree now then ends other =
      let same = some_same ends.replayed other.replayed (sym ends.is_run ∙ other.is_run) in
      let ending = sym ends.ending ∙ ap (λ (r : Replayed). r.ending) same ∙ other.ending in
      let trace = sym ends.trace ∙ ap (λ (r : Replayed). r.trace) same ∙ other.trace in
      λ i. (ending i, trace i)

  one_in : (one other : List Outcome) → IsExact run start one → IsExact run start other → AllIn (endings_and_traces one) (endings_and_traces other)
  one_in one other a b = each_in one (endings_and_traces other) (λ place o at.
      let covers = a.shown place o at in
      let from = a.runs place o o.shown covers.0 at covers.1 in
      let found = (b.once o.shown from.0).covers in
      let to = b.runs (b.once o.shown from.0).place found.outcome o.shown found.covers.0 found.at found.covers.1 in
      subst (λ (t : Told). In t (endings_and_traces other))
      (sym (told_alike o found.outcome o.shown covers.0 found.covers.0 from.1 to.1))
      (told_in other (b.once o.shown from.0).place found.outcome found.at))

  pub exact_end_alike : ExactListsEndAlike run start
  exact_end_alike one other a b =
      same_lists (endings_and_traces one) (endings_and_traces other) (all_rising one a.rising) (all_rising other b.rising)
      (one_in one other a b) (one_in other one b a)
