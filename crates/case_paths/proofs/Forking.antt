-- What cases fork a state into: their order, their start trees, and the stages that they are.
use Rattle.std.proofs.Common.{inl, inr, ◌≡◌, ◌≢◌, Bool, true, false, nat_lt, ℕ, zero, suc, ◌<◌, ◌≤◌, ◌+◌, take, drop, append_assoc, List, [], ◌∷◌, ◌++◌, length, length-append, get_or, refl, sym, ap, ◌∙◌, subst, arith, map}
use Rattle.std.specs.Prelude.{◌⊎◌, All}
use Rattle.std.proofs.lemmas.Bool.{ltb-true, ltb-false}
use Rattle.std.proofs.lemmas.List.{take-append-drop, get_or_read, get_or-take}
use Rattle.std.proofs.lemmas.List.Elements.{All-contains}
use Rattle.script_names.specs.declared.mark.Mark.{Mark}
use Rattle.script_names.specs.declared.mark.Site.{Site}
use Rattle.script_names.specs.declared.reason.Done.{Done}
use Rattle.feature_trees.specs.declared.value.Value.{Value}
use Rattle.feature_trees.specs.declared.value.Value.TheVariants as value
use Rattle.tree_clauses.specs.declared.case.Case.{Case}
use Rattle.tree_clauses.specs.declared.clause.Var.{Var}
use Rattle.tree_clauses.specs.Literals.{Valuation, value_of_variable}
use Rattle.tree_clauses.specs.Plain.{IsPlainFrom}
use Rattle.utility_calls.specs.declared.deeds.Deed.{Deed}
use Rattle.utility_calls.specs.Walks.{World, world, Walk, walk, AllDone}
use Rattle.act_cases.specs.Cases.{case_row, Rising as RisingRows}
use Rattle.clause_solver.specs.Stands.{Stands}
use Rattle.clause_solver.specs.Adds.{given_at, AllInside, LeadsFrom, AddsFrom, LeadsNowhereFrom}
use Rattle.case_paths.specs.declared.state.PathState.{PathState}
use Rattle.case_paths.specs.Traces.{Before, AllBegin, AllAfter, Rising}
use Rattle.case_paths.specs.Paths.{traces, AllAlive}
use Rattle.case_paths.specs.Steps.{world_of, GoesOn, mark_of, Forked, none, left_out, taken, HasRow, IsRowAt, IsLed, AreForks, Step, IsStepCase, AreStepCases, Takes, IsNextStep, StepForks}
use Rattle.case_paths.specs.declared.fork.Forks.{Forks}
use Rattle.case_paths.specs.Stages.{Holds, Parts, IsStageOf, AllStages}
use Rattle.case_paths.proofs.Orders.{begins_refl, nil_right, before_other}

-- ---- each, down the list of cases

all_first : {A : Type 0} (P : A → Type 0) (x : A) (xs : List A) → All P (x ∷ xs) → P x
all_first P x xs h = h 0 x (omega arith)

all_later : {A : Type 0} (P : A → Type 0) (x : A) (xs : List A) → All P (x ∷ xs) → All P xs
all_later P x xs h = λ k d lt. h (suc k) d (omega (arith, lt))

-- ---- the order of the forks

-- each row is above this one
abbrev AllAbove : ℕ → List Case → Type 0
AllAbove n [] = Unit {0}
AllAbove n (made ∷ cases) = (n < made.row) × AllAbove n cases

all_above_less : (n m : ℕ) (cases : List Case) → n < m → AllAbove m cases → AllAbove n cases
all_above_less n m [] lt h = tt
all_above_less n m (made ∷ cases) lt h = (let k = h.0 in omega (arith, lt, k), all_above_less n m cases lt h.1)

rising_above : (made : Case) (cases : List Case) → RisingRows (map case_row (made ∷ cases)) → AllAbove made.row cases
rising_above made [] h = tt
rising_above made (next ∷ cases) h = (h.0, all_above_less made.row next.row cases h.0 (rising_above next cases h.1))

rising_later : (made : Case) (cases : List Case) → RisingRows (map case_row (made ∷ cases)) → RisingRows (map case_row cases)
rising_later made [] h = tt
rising_later made (next ∷ cases) h = h.1

-- the trace with the mark of a row more
abbrev marked : List Mark → Site → ℕ → List Mark
marked trace site n = trace ++ mark_of site n ∷ []

before_marks : (trace : List Mark) (site : Site) (n m : ℕ) → n < m → Before (marked trace site n) (marked trace site m)
before_marks trace site n m lt = record {
  front = trace;
  low = mark_of site n;
  high = mark_of site m;
  same = refl;
  less = lt;
  first = begins_refl (marked trace site n);
  second = begins_refl (marked trace site m);
}

-- one of these, with this trace, has the start tree
abbrev pub HaveStart : List PathState → List Mark → Value → Type 0
HaveStart [] trace t = ⊥
HaveStart (y ∷ ys) trace t = (((g : Valuation) × Stands y.store t g) × (y.trace ≡ trace)) ⊎ HaveStart ys trace t

module _ (given : List Var) (site : Site) (x : PathState) where
  forks_above : (n : ℕ) (cases : List Case) (ys : List PathState) → Forked given site x cases ys → AllAbove n cases → AllAfter (marked x.trace site n) (traces ys)
  forks_above n cases ys none h = tt
  forks_above n cases ys (left_out nowhere f) h = forks_above n _ ys f h.1
  forks_above n cases ys (taken {y = y} adds e f) h =
      (subst (Before (marked x.trace site n)) (sym e.trace) (before_marks x.trace site n _ h.0), forks_above n _ _ f h.1)

  forks_rise : (cases : List Case) (ys : List PathState) → Forked given site x cases ys → RisingRows (map case_row cases) → Rising (traces ys)
  forks_rise cases ys none h = tt
  forks_rise cases ys (left_out {made = made} {cases = rest} nowhere f) h = forks_rise rest ys f (rising_later made rest h)
  forks_rise cases ys (taken {made = made} {cases = rest} {y = y} {ys = zs} adds e f) h =
      (subst (λ a. AllAfter a (traces zs)) (sym e.trace) (forks_above made.row rest zs f (rising_above made rest h)), forks_rise rest zs f (rising_later made rest h))

  forks_under : (cases : List Case) (ys : List PathState) → Forked given site x cases ys → AllBegin x.trace (traces ys)
  forks_under cases ys none = tt
  forks_under cases ys (left_out nowhere f) = forks_under _ ys f
  forks_under cases ys (taken {made = made} {cases = rest} {y = y} {ys = zs} adds e f) = (record { more = mark_of site made.row ∷ []; is = e.trace }, forks_under rest zs f)

  forks_alive : (cases : List Case) (ys : List PathState) → Forked given site x cases ys → AllAlive ys
  forks_alive cases ys none = tt
  forks_alive cases ys (left_out nowhere f) = forks_alive _ ys f
  forks_alive cases ys (taken {made = made} {cases = rest} {y = y} {ys = zs} adds e f) = (adds.alive, forks_alive rest zs f)

  -- no fork has another start tree
  forks_none_else : (cases : List Case) (ys : List PathState) → Forked given site x cases ys → (t : Value) → Holds ys t → (g : Valuation) × Stands x.store t g
  forks_none_else cases ys none t h = absurd h
  forks_none_else cases ys (left_out nowhere f) t h = forks_none_else _ ys f t h
  forks_none_else cases ys (taken {made = made} {cases = rest} {y = y} {ys = zs} adds e f) t (inl p) = (take x.store.count p.1.0, (adds.down t p.1.0 p.1.1).0)
  forks_none_else cases ys (taken {made = made} {cases = rest} {y = y} {ys = zs} adds e f) t (inr h) = forks_none_else rest zs f t h

  -- a world of the state goes on in the fork of each case that leads on from it
  forks_have : (cases : List Case) (ys : List PathState) → Forked given site x cases ys → (made : Case) (k : ℕ) → k < length cases → ((d : Case) → get_or cases k d ≡ made) → (t : Value) (g : Valuation) (u : Value) → Stands x.store t g → LeadsFrom made given g u → HaveStart ys (marked x.trace site made.row) t
  forks_have cases ys none made k lt at t g u h l = absurd (omega (arith, lt))
  forks_have cases ys (left_out {made = other} {cases = rest} nowhere f) made zero lt at t g u h l = absurd (nowhere t g u h (subst (λ (c : Case). LeadsFrom c given g u) (sym (at other)) l))
  forks_have cases ys (left_out {made = other} {cases = rest} nowhere f) made (suc k) lt at t g u h l = forks_have rest ys f made k (omega (arith, lt)) at t g u h l
  forks_have cases ys (taken {made = other} {cases = rest} {y = y} {ys = zs} adds e f) made zero lt at t g u h l =
      let on = adds.up t g u h (subst (λ (c : Case). LeadsFrom c given g u) (sym (at other)) l) in
      inl ((on.0, on.1), e.trace ∙ ap (λ (c : Case). marked x.trace site c.row) (at other))
  forks_have cases ys (taken {made = other} {cases = rest} {y = y} {ys = zs} adds e f) made (suc k) lt at t g u h l = inr (forks_have rest zs f made k (omega (arith, lt)) at t g u h l)

-- ---- what is walked from a fork

-- what is left of a walk begins with a step: it is walked on behind the step's mark and deed
pub record IsStepOf {A : Type 0} (rest : Walk A) (site : Site) (step : Step) (deed : Deed) (next : Done → Walk A) : Type 0 where
  pub all : AllDone rest → (answer : Done) → AllDone (next answer)
  pub walks : (w : World) (trace : List Mark) (deeds : List Deed) → walk rest w trace deeds ≡ walk (next (step.row_in w).answer) (world (step.after w) w.kept) (trace ++ mark_of site (step.row_in w).number ∷ []) (deeds ++ deed ∷ [])

-- the world of the state before, behind a case's valuation
module _ (given : List Var) (site : Site) (x : PathState) (step : Step) (made : Case) (y : PathState) (inside : AllInside given x.store.count) (is : IsStepCase x given step made) (known : x.kept.0 < x.store.count) (adds : AddsFrom x.store given made y.store) (e : GoesOn x (mark_of site made.row) y) (t : Value) (h : Valuation) (stands : Stands y.store t h) where
  abbrev g : Valuation
  g = take x.store.count h

  pub held : Stands x.store t g
  held = (adds.down t h stands).0

  old_value : (i : ℕ) → i < x.store.count → value_of_variable h i ≡ value_of_variable g i
  old_value i lt = sym (get_or-take x.store.count h i value.Absent lt)

  led : LeadsFrom made given g (value_of_variable h y.store.current)
  led =
      let l = (adds.down t h stands).1 in
      record {
        valuation = l.valuation;
        values = l.values;
        starts = λ i lt. l.starts i lt ∙ old_value (given_at given i) (inside i lt);
        ends = l.ends;
        met = l.met;
      }

  pub is_taken : ((step.row_in (world_of x g)).number ≡ made.row) × (value_of_variable h y.store.current ≡ step.after (world_of x g))
  is_taken = (is.exact t g (value_of_variable h y.store.current) held).0 led

  kept_same : value_of_variable h y.kept.0 ≡ (world_of x g).kept
  kept_same = ap (λ (v : Var). value_of_variable h v.0) e.kept ∙ old_value x.kept.0 known

  pub world_behind : world_of y h ≡ world (step.after (world_of x g)) (world_of x g).kept
  world_behind = ap (λ k. world (value_of_variable h y.store.current) k) kept_same ∙ ap (λ u. world u (world_of x g).kept) is_taken.1

  -- what is walked on from the fork is what was left before
  pub walks_on : {A : Type 0} (rest : Walk A) (deed : Deed) (next : Done → Walk A) (deeds : List Deed) → IsStepOf rest site step deed next → walk (next made.done) (world_of y h) y.trace (deeds ++ deed ∷ []) ≡ walk rest (world_of x g) x.trace deeds
  walks_on rest deed next deeds is_step =
      let w = world_of x g in
      let answer : made.done ≡ (step.row_in w).answer = is.answers t g held is_taken.0 in
      let mark : y.trace ≡ marked x.trace site (step.row_in w).number = e.trace ∙ ap (λ n. marked x.trace site n) (sym is_taken.0) in
      (λ i. walk (next (answer i)) (world_behind i) (mark i) (deeds ++ deed ∷ [])) ∙ sym (is_step.walks w x.trace deeds)

module _ {A : Type 0} (d : Walk A) (given : List Var) (site : Site) (x : PathState) (step : Step) (deed : Deed) (rest : Walk A) (next : Done → Walk A) (deeds : List Deed) (s : IsStageOf d x rest deeds) (is_step : IsStepOf rest site step deed next) (inside : AllInside given x.store.count) where
  -- the fork by a case of the next step is a stage
  fork_is_stage : (y : PathState) (made : Case) → IsStepCase x given step made → AddsFrom x.store given made y.store → GoesOn x (mark_of site made.row) y → IsStageOf d y (next made.done) (deeds ++ deed ∷ [])
  fork_is_stage y made is adds e = record {
    known = (let k = ap (λ (v : Var). v.0) e.kept in let old = s.known in let more = adds.more in omega (arith, k, old, more));
    count = (let k = length-append deeds (deed ∷ []) in let n = e.done in let c = s.count in omega (arith, k, n, c));
    all = is_step.all s.all made.done;
    walks = λ t h stands.
        walks_on given site x step made y inside is s.known adds e t h stands rest deed next deeds is_step
        ∙ s.walks t (take x.store.count h) (held given site x step made y inside is s.known adds e t h stands);
  }

  pub forks_are_stages : (cases : List Case) (ys : List PathState) → Forked given site x cases ys → All (IsStepCase x given step) cases → AllStages d ys
  forks_are_stages cases ys none exact = tt
  forks_are_stages cases ys (left_out {made = made} {cases = rest} nowhere f) exact = forks_are_stages rest ys f (all_later (IsStepCase x given step) made rest exact)
  forks_are_stages cases ys (taken {made = made} {cases = rest} {y = y} {ys = zs} adds e f) exact = (
    (next made.done, deeds ++ deed ∷ [], fork_is_stage y made (all_first (IsStepCase x given step) made rest exact) adds e),
    forks_are_stages rest zs f (all_later (IsStepCase x given step) made rest exact),
  )

get_or_any : {A : Type 0} (xs : List A) (k : ℕ) → k < length xs → (d e : A) → get_or xs k d ≡ get_or xs k e
get_or_any [] k lt d e = absurd (omega (arith, lt))
get_or_any (x ∷ xs) zero lt d e = refl
get_or_any (x ∷ xs) (suc k) lt d e = get_or_any xs k (omega (arith, lt)) d e

module _ (given : List Var) (site : Site) (x : PathState) (step : Step) (cases : List Case) (are : AreStepCases x given step cases) where
  -- a start tree of the state goes on in the fork with its row
  pub forks_have_start : (ys : List PathState) → Forked given site x cases ys → (t : Value) (g : Valuation) → Stands x.store t g → HaveStart ys (marked x.trace site (step.row_in (world_of x g)).number) t
  forks_have_start ys f t g h =
      let every = are.every t g h in
      let made = every.0 in
      let place = every.1 in
      let same : (d : Case) → get_or cases place.0 d ≡ made = λ d. get_or_any cases place.0 place.1 d made ∙ place.2 in
      let is : IsStepCase x given step made = subst (IsStepCase x given step) (same made) (are.exact place.0 made place.1) in
      let leads = (is.exact t g (step.after (world_of x g)) h).1 (sym every.2, refl) in
      subst (λ n. HaveStart ys (marked x.trace site n) t) every.2 (forks_have given site x cases ys f made place.0 place.1 same t g (step.after (world_of x g)) h leads)

  have_holds : (ys : List PathState) (trace : List Mark) (t : Value) → HaveStart ys trace t → Holds ys t
  have_holds [] trace t h = absurd h
  have_holds (y ∷ ys) trace t (inl p) = inl (value_of_variable p.0.0 y.store.current, (p.0.0, p.0.1, refl))
  have_holds (y ∷ ys) trace t (inr h) = inr (have_holds ys trace t h)

  -- the forks part the state
  pub forks_part : (ys : List PathState) → Forked given site x cases ys → Parts x ys
  forks_part ys f = record {
    all = λ t u p. have_holds ys (marked x.trace site (step.row_in (world_of x p.0)).number) t (forks_have_start ys f t p.0 p.1);
    none_else = λ t h. (let old = forks_none_else given site x cases ys f t h in (value_of_variable old.0 x.store.current, (old.0, old.1, refl)));
    alive = forks_alive given site x cases ys f;
    rising = forks_rise given site x cases ys f are.rising;
    under = forks_under given site x cases ys f;
  }

module _ (given : List Var) (x : PathState) (step : Step) (cases : List Case) (are : AreStepCases x given step cases) where
  -- where some world of the state takes this row, the cases are led by it
  taken_leads : (n : ℕ) → Takes x step n → IsLed given x cases n
  taken_leads n (t, g, h, e) = record {
    has = (let every = are.every t g h in (every.0, every.1, every.2 ∙ e));
    leads = λ made has own nowhere.
        nowhere t g (step.after (world_of x g)) h
        (((All-contains (IsStepCase x given step) cases made are.exact has).exact t g (step.after (world_of x g)) h).1 (e ∙ sym own, refl));
  }

  -- so they are by the row of the run's next mark
  pub next_leads : (marks : List Mark) (i : ℕ) (o : Mark) → i ≡ length x.trace → IsNextStep x marks step → IsLed given x cases (get_or marks i o).row
  next_leads marks i o at next = taken_leads (get_or marks i o).row (subst (λ n. Takes x step (get_or marks n o).row) (sym at) (next.1 o))

  pub next_forks : (marks : List Mark) (i : ℕ) (o : Mark) (forks : Forks) → i ≡ length x.trace → IsNextStep x marks step → AreForks (get_or marks i o) given x cases forks → StepForks x marks step forks
  next_forks marks i o forks at next f =
      let lt : i < length marks = subst (λ n. n < length marks) (sym at) next.0 in
      record {
        given = given;
        cases = cases;
        are = are;
        mark = get_or marks i o;
        mark_is = λ p. ap (λ n. get_or marks n p) (sym at) ∙ get_or_any marks i lt p o;
        are_forks = f;
      }

-- ---- one case after the other

-- the forks so far, and those of the cases from the first i on, are those of all
abbrev pub AreSoFar : List Var → Site → PathState → List Case → ℕ → List PathState → Type 0
AreSoFar given site x cases i forks = (ys : List PathState) → Forked given site x (drop i cases) ys → Forked given site x cases (forks ++ ys)

drop_none : (xs : List Case) (i : ℕ) → length xs ≤ i → drop i xs ≡ []
drop_none [] zero le = refl
drop_none [] (suc i) le = refl
drop_none (x ∷ xs) zero le = absurd (omega (arith, le))
drop_none (x ∷ xs) (suc i) le = drop_none xs i (omega (arith, le))

drop_one : (xs : List Case) (i : ℕ) (x : Case) → i < length xs → x ≡ get_or xs i x → drop i xs ≡ x ∷ drop (i + 1) xs
drop_one [] i x lt e = absurd (omega (arith, lt))
drop_one (y ∷ xs) zero x lt e = ap (λ z. z ∷ xs) (sym e)
drop_one (y ∷ xs) (suc i) x lt e = drop_one xs i x (omega (arith, lt)) e ∙ ap (λ n. x ∷ drop n (y ∷ xs)) (let h : suc (i + 1) ≡ suc i + 1 = omega arith in h)

pub taken_next : (given : List Var) (site : Site) (x y : PathState) (cases : List Case) (i : ℕ) (made : Case) (forks more : List PathState) → i < length cases → made ≡ get_or cases i made → AddsFrom x.store given made y.store → GoesOn x (mark_of site made.row) y → more ≡ forks ++ y ∷ [] → AreSoFar given site x cases i forks → AreSoFar given site x cases (i + 1) more
taken_next given site x y cases i made forks more lt at adds e is h ys f =
    subst (Forked given site x cases) (sym (ap (λ l. l ++ ys) is ∙ append_assoc forks (y ∷ []) ys))
    (h (y ∷ ys) (subst (λ l. Forked given site x l (y ∷ ys)) (sym (drop_one cases i made lt at)) (taken adds e f)))

pub left_out_next : (given : List Var) (site : Site) (x : PathState) (cases : List Case) (i : ℕ) (made : Case) (forks : List PathState) → i < length cases → made ≡ get_or cases i made → LeadsNowhereFrom x.store given made → AreSoFar given site x cases i forks → AreSoFar given site x cases (i + 1) forks
left_out_next given site x cases i made forks lt at nowhere h ys f = h ys (subst (λ l. Forked given site x l ys) (sym (drop_one cases i made lt at)) (left_out nowhere f))

pub all_forks : (given : List Var) (site : Site) (x : PathState) (cases : List Case) (i : ℕ) (forks : List PathState) → length cases ≤ i → AreSoFar given site x cases i forks → Forked given site x cases forks
all_forks given site x cases i forks le h = subst (Forked given site x cases) (nil_right forks) (h [] (subst (λ l. Forked given site x l []) (sym (drop_none cases i le)) none))

-- ---- the cases below a row, the case of that row, and those above it

forked_append : (given : List Var) (site : Site) (x : PathState) (cases more : List Case) (ys zs : List PathState) → Forked given site x cases ys → Forked given site x more zs → Forked given site x (cases ++ more) (ys ++ zs)
forked_append given site x cases more ys zs none g = g
forked_append given site x cases more ys zs (left_out {made = made} {cases = rest} nowhere f) g = left_out nowhere (forked_append given site x rest more ys zs f g)
forked_append given site x cases more ys zs (taken {made = made} {cases = rest} {y = y} {ys = us} adds e f) g = taken adds e (forked_append given site x rest more us zs f g)

pub forks_joined : (mark : Mark) (given : List Var) (x : PathState) (cases : List Case) (i : ℕ) (made : Case) (lower higher : List PathState) (y : PathState) → i < length cases → made ≡ get_or cases i made → made.row ≡ mark.row → Forked given mark.site x (take i cases) lower → Forked given mark.site x (drop (i + 1) cases) higher → AddsFrom x.store given made y.store → GoesOn x mark y → AreForks mark given x cases (record { lower = lower; followed = y; higher = higher })
forks_joined mark given x cases i made lower higher y lt at same low high adds e = record {
  forked = subst (λ l. Forked given mark.site x l (lower ++ y ∷ higher)) whole (forked_append given mark.site x (take i cases) (made ∷ drop (i + 1) cases) lower (y ∷ higher) low (taken adds goes high));
  followed = e;
}
  where
    whole : take i cases ++ made ∷ drop (i + 1) cases ≡ cases
    whole = ap (λ l. take i cases ++ l) (sym (drop_one cases i made lt at)) ∙ take-append-drop i cases

    goes : GoesOn x (mark_of mark.site made.row) y
    goes = subst (λ n. GoesOn x (mark_of mark.site n) y) (sym same) e

-- what is so of the case at a place
pub plain_at : (given : List Var) (cases : List Case) (i : ℕ) (made : Case) → i < length cases → made ≡ get_or cases i made → All (IsPlainFrom (length given)) cases → IsPlainFrom (length given) made
plain_at given cases i made lt at plain = subst (IsPlainFrom (length given)) (sym at) (plain i made lt)

pub led_at : (given : List Var) (x : PathState) (cases : List Case) (n i : ℕ) (made : Case) → made ≡ get_or cases i made → IsRowAt cases n i → IsLed given x cases n → LeadsNowhereFrom x.store given made → ⊥
led_at given x cases n i made at row led = led.leads made (i, row.0, sym at) (ap (λ (c : Case). c.row) at ∙ row.1 made)

-- ---- the fork of a run

not_after : (a b : List Mark) (ys : List PathState) (t : Value) → AllAfter a (traces ys) → HaveStart ys b t → a ≡ b → ⊥
not_after a b [] t h k e = absurd k
not_after a b (y ∷ ys) t h (inl p) e = before_other a y.trace h.0 (e ∙ sym p.1)
not_after a b (y ∷ ys) t h (inr k) e = not_after a b ys t h.1 k e

after_between : (a : List Mark) (lower higher : List PathState) (y : PathState) → AllAfter a (traces (lower ++ y ∷ higher)) → Before a y.trace
after_between a [] higher y h = h.0
after_between a (z ∷ lower) higher y h = after_between a lower higher y h.1

-- of states whose traces rise, the one with the trace of a start tree has the start tree
pub followed_start : (lower higher : List PathState) (y : PathState) (trace : List Mark) (t : Value) → Rising (traces (lower ++ y ∷ higher)) → y.trace ≡ trace → HaveStart (lower ++ y ∷ higher) trace t → (g : Valuation) × Stands y.store t g
followed_start [] higher y trace t r e (inl p) = p.0
followed_start [] higher y trace t r e (inr h) = absurd (not_after y.trace trace higher t r.0 h e)
followed_start (z ∷ lower) higher y trace t r e (inl p) = absurd (before_other z.trace y.trace (after_between z.trace lower higher y r.0) (p.1 ∙ sym e))
followed_start (z ∷ lower) higher y trace t r e (inr h) = followed_start lower higher y trace t r.1 e h

-- ---- the place of a row

-- none of the cases before this place is of this row
abbrev pub NoneBefore : List Case → ℕ → ℕ → Type 0
NoneBefore cases n i = (k : ℕ) → k < i → (o : Case) → (get_or cases k o).row ≡ n → ⊥

pub none_more : (cases : List Case) (n i : ℕ) (made : Case) → i < length cases → made ≡ get_or cases i made → made.row ≢ n → NoneBefore cases n i → NoneBefore cases n (i + 1)
none_more cases n i made within at ne before k lt o e = by (nat_lt k i) refl
  where
    by : (b : Bool) → nat_lt k i ≡ b → ⊥
    by true below = before k (ltb-true k i below) o e
    by false above =
        let reached = ltb-false k i above in
        let same : k ≡ i = omega (arith, lt, reached) in
        ne (ap (λ (c : Case). c.row) (get_or_read cases i made within at o) ∙ ap (λ j. (get_or cases j o).row) (sym same) ∙ e)

pub not_reached : (cases : List Case) (n i : ℕ) → HasRow cases n → NoneBefore cases n i → length cases ≤ i → ⊥
not_reached cases n i has before le =
    let w = has.1.1 in before has.1.0 (omega (arith, w, le)) has.0 (ap (λ (c : Case). c.row) has.1.2 ∙ has.2)
