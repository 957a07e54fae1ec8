-- Steps of clauses one after another, and the walk over them.
use Rattle.std.proofs.Common.{◌≡◌, ℕ, suc, ◌+◌, ◌<◌, ◌≤◌, true, false, List, [], ◌∷◌, ◌++◌, length, take, drop, get_or, sym, subst, ap, ◌∙◌, arith}
use Rattle.std.proofs.Math.Seq.{drop-cons}
use Rattle.std.proofs.lemmas.List.{take-append-drop, append_assoc, get_or-map, length-map}
use Rattle.feature_trees.specs.declared.value.Value.{Value}
use Rattle.tree_clauses.specs.declared.clause.Clause.{Clause}
use Rattle.tree_predictions.specs.declared.looks.Look.{Look}
use Rattle.tree_predictions.specs.declared.plan.TheConstants.{MOST_SHARED}
use Rattle.tree_predictions.specs.declared.plan.Step.{Step}
use Rattle.tree_predictions.specs.Looks.{AreNecessary, held_of}
use Rattle.tree_predictions.specs.Plans.{looks_behind, ArePlanned, clauses_of}

-- the looks of a clause are those that it shares and the others
pub put_together : (before looks more : List Look) (shared : ℕ) → take shared before ≡ take shared looks → more ≡ drop shared looks
    → looks ≡ take shared before ++ more
put_together before looks more shared same rest =
    sym (ap (λ r. take shared before ++ r) rest ∙ ap (λ f. f ++ drop shared looks) same ∙ take-append-drop shared looks)

-- one step more, whatever the rest is
pub one_step : (before looks : List Look) (plan rest : List Step) (step : Step)
    → ((rest : List Step) → ArePlanned before rest → ArePlanned [] (plan ++ rest))
    → step.shared ≤ length before → step.shared ≤ MOST_SHARED → AreNecessary step.clause.now looks → looks ≡ looks_behind before step
    → ArePlanned looks rest → ArePlanned [] ((plan ++ step ∷ []) ++ rest)
one_step before looks plan rest step so_far within few necessary is planned =
    subst (ArePlanned []) (sym (append_assoc plan (step ∷ []) rest))
    (so_far (step ∷ rest) (within, few, subst (AreNecessary step.clause.now) is necessary, subst (λ l. ArePlanned l rest) is planned))

-- the walk stands behind clauses of which the last one has looks of which so many hold
pub record IsBehind (tree : Value) (plan : List Step) (i held : ℕ) : Type 0 where
  pub before : List Look
  pub planned : ArePlanned before (drop i plan)
  pub count : held ≡ held_of tree before

-- what the next step says
pub record Next (tree : Value) (plan : List Step) (i held : ℕ) (step : Step) : Type 0 where
  pub before : List Look
  pub count : held ≡ held_of tree before
  pub within : step.shared ≤ length before
  pub few : step.shared ≤ MOST_SHARED
  pub necessary : AreNecessary step.clause.now (looks_behind before step)
  pub planned : ArePlanned (looks_behind before step) (drop (i + 1) plan)

pub next : (tree : Value) (plan : List Step) (i held : ℕ) (step : Step) → i < length plan → step ≡ get_or plan i step → IsBehind tree plan i held
    → Next tree plan i held step
next tree plan i held step lt is behind =
    let planned : ArePlanned behind.before (step ∷ drop (i + 1) plan) =
    subst (ArePlanned behind.before) (drop-cons plan i step lt ∙ ap (λ s. s ∷ drop (suc i) plan) (sym is) ∙ ap (λ k. step ∷ drop k plan) (add_one i)) behind.planned in
    record {
      before = behind.before;
      count = behind.count;
      within = planned.0;
      few = planned.1;
      necessary = planned.2;
      planned = planned.3;
    }
  where
    add_one : (i : ℕ) → suc i ≡ i + 1
    add_one i = omega arith

-- the clause of a step, among the clauses of all
pub clause_at : (plan : List Step) (i : ℕ) (step : Step) → i < length plan → step ≡ get_or plan i step → (d : Clause) → get_or (clauses_of plan) i d ≡ step.clause.now
clause_at plan i step lt is d =
    get_or-map (λ (step : Step). step.clause.now) plan i step d lt ∙ ap (λ (step : Step). step.clause.now) (sym is)

pub count_of : (plan : List Step) → length (clauses_of plan) ≡ length plan
count_of plan = length-map plan (λ (step : Step). step.clause.now)

pub clause_within : (plan : List Step) (i : ℕ) → i < length plan → i < length (clauses_of plan)
clause_within plan i lt = subst (λ n. i < n) (sym (count_of plan)) lt

pub true_false : true ≡ false → ⊥
true_false e = cc
