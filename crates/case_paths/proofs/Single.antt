-- Paths that have ended, in the form that is read; and too many of them.
use Rattle.std.proofs.Common.{inl, inr, ◌≡◌, ℕ, zero, suc, ◌<◌, ◌≤◌, ◌+◌, List, [], ◌∷◌, ◌++◌, length, length-append, refl, sym, ap, ◌∙◌, subst, arith}
use Rattle.std.specs.Prelude.{◌⊎◌}
use Rattle.script_names.specs.declared.mark.Mark.{Mark}
use Rattle.feature_trees.specs.declared.value.Value.{Value}
use Rattle.clause_solver.specs.Stands.{Alive}
use Rattle.clause_solver.specs.Pairs.{HasPair}
use Rattle.utility_calls.specs.Walks.{Walk, Walked, fresh, walk}
use Rattle.case_paths.specs.declared.state.PathState.{PathState}
use Rattle.case_paths.specs.declared.state.Found.{Found}
use Rattle.case_paths.specs.Traces.{Begins, Before, AllAfter, Rising}
use Rattle.case_paths.specs.Paths.{EndsAs, IsAt, Once, traces, states, AllAlive, AreThePaths, AllPlayed, AreTooMany, AreFew}
use Rattle.case_paths.specs.declared.items.Item.{Item}
use Rattle.case_paths.specs.declared.items.Item.TheVariants.{Waiting, Ended}
use Rattle.case_paths.specs.Steps.{world_of}
use Rattle.case_paths.specs.Stages.{Holds, Parts, IsStage, HasEnded, AllEnded}
use Rattle.case_paths.proofs.Orders.{nil_right, before_left, before_right, before_other}
use Rattle.case_paths.proofs.Walks.{some_pair, extends}
use Rattle.case_paths.proofs.Parting.{traces_length, states_length}
use Rattle.case_paths.specs.Items.{item_states, AllItems}
use Rattle.case_paths.proofs.ItemStates.{items_length}

-- ---- one place for each trace

after_at : {A : Type 0} (t : List Mark) (xs : List (Found A)) (k : ℕ) (y : Found A) → AllAfter t (traces (states xs)) → IsAt xs k y → Before t y.state.trace
after_at t [] k y h x = absurd x
after_at {A} t (x ∷ xs) zero y h e = subst (λ (z : Found A). Before t z.state.trace) e h.0
after_at t (x ∷ xs) (suc k) y h a = after_at t xs k y h.1 a

one_place : {A : Type 0} (xs : List (Found A)) (j k : ℕ) (x y : Found A) → Rising (traces (states xs)) → IsAt xs j x → IsAt xs k y → x.state.trace ≡ y.state.trace → j ≡ k
one_place [] j k x y r a b e = absurd a
one_place (z ∷ zs) zero zero x y r a b e = refl
one_place {A} (z ∷ zs) zero (suc k) x y r a b e = absurd (before_other z.state.trace y.state.trace (after_at z.state.trace zs k y r.0 b) (ap (λ (q : Found A). q.state.trace) a ∙ e))
one_place {A} (z ∷ zs) (suc j) zero x y r a b e = absurd (before_other z.state.trace x.state.trace (after_at z.state.trace zs j x r.0 a) (ap (λ (q : Found A). q.state.trace) b ∙ sym e))
one_place (z ∷ zs) (suc j) (suc k) x y r a b e = ap suc (one_place zs j k x y r.1 a b e)

-- ---- where a start tree is held

record Placed {A : Type 0} (xs : List (Found A)) (t : Value) : Type 0 where
  place : ℕ
  path : Found A
  is_there : IsAt xs place path
  after : Value
  has : HasPair path.state.store t after

placed : {A : Type 0} (xs : List (Found A)) (t : Value) → Holds (states xs) t → Placed xs t
placed [] t h = absurd h
placed (x ∷ xs) t (inl p) = record { place = zero; path = x; is_there = refl; after = p.0; has = p.1 }
placed (x ∷ xs) t (inr p) = let h = placed xs t p in record { place = suc h.place; path = h.path; is_there = h.is_there; after = h.after; has = h.has }

holds_at : {A : Type 0} (xs : List (Found A)) (k : ℕ) (x : Found A) (t v : Value) → IsAt xs k x → HasPair x.state.store t v → Holds (states xs) t
holds_at [] k x t v a h = absurd a
holds_at {A} (z ∷ zs) zero x t v a h = inl (v, subst (λ (y : Found A). HasPair y.state.store t v) (sym a) h)
holds_at (z ∷ zs) (suc k) x t v a h = inr (holds_at zs k x t v a h)

ended_at : {A : Type 0} (d : Walk A) (xs : List (Found A)) (k : ℕ) (x : Found A) → AllEnded d xs → IsAt xs k x → HasEnded d x
ended_at d [] k x h a = absurd a
ended_at d (z ∷ zs) zero x h a = subst (HasEnded d) a h.0
ended_at d (z ∷ zs) (suc k) x h a = ended_at d zs k x h.1 a

-- ---- traces in a list

abbrev In : List Mark → List (List Mark) → Type 0
In t [] = ⊥
In t (u ∷ us) = (t ≡ u) ⊎ In t us

abbrev AllIn : List (List Mark) → List (List Mark) → Type 0
AllIn [] us = Unit {0}
AllIn (t ∷ ts) us = In t us × AllIn ts us

record Without (us : List (List Mark)) (t : List Mark) : Type 0 where
  rest : List (List Mark)
  count : length us ≡ suc (length rest)
  others : (s : List Mark) → (s ≡ t → ⊥) → In s us → In s rest

keep_head : (u : List Mark) (us : List (List Mark)) (t : List Mark) → Without us t → Without (u ∷ us) t
keep_head u us t w = record { rest = u ∷ w.rest; count = ap suc w.count; others = λ s n i. other s n i }
  where
    other : (s : List Mark) → (s ≡ t → ⊥) → (s ≡ u) ⊎ In s us → (s ≡ u) ⊎ In s w.rest
    other s n (inl f) = inl f
    other s n (inr i) = inr (w.others s n i)

without : (us : List (List Mark)) (t : List Mark) → In t us → Without us t
without [] t h = absurd h
without (u ∷ us) t (inl e) = record { rest = us; count = refl; others = λ s n i. other s n i }
  where
    other : (s : List Mark) → (s ≡ t → ⊥) → (s ≡ u) ⊎ In s us → In s us
    other s n (inl f) = absurd (n (f ∙ sym e))
    other s n (inr i) = i
without (u ∷ us) t (inr h) = keep_head u us t (without us t h)

all_others : (t : List Mark) (ts us : List (List Mark)) (w : Without us t) → AllAfter t ts → AllIn ts us → AllIn ts w.rest
all_others t [] us w a h = tt
all_others t (s ∷ ts) us w a h = (w.others s (λ e. before_other t s a.0 (sym e)) h.0, all_others t ts us w a.1 h.1)

few : (ts us : List (List Mark)) → Rising ts → AllIn ts us → length ts ≤ length us
few [] us r h = omega arith
few (t ∷ ts) us r h = let w = without us t h.0 in let n = few ts w.rest r.1 (all_others t ts us w r.0 h.1) in let c = w.count in omega (arith, n, c)

trace_in : {A : Type 0} (xs : List (Found A)) (k : ℕ) (x : Found A) → IsAt xs k x → In x.state.trace (traces (states xs))
trace_in [] k x a = absurd a
trace_in {A} (z ∷ zs) zero x a = inl (ap (λ (y : Found A). y.state.trace) (sym a))
trace_in (z ∷ zs) (suc k) x a = inr (trace_in zs k x a)

-- ---- paths that part a state, and have ended

module _ {A : Type 0} (d : Walk A) (root : PathState) (known : (t u : Value) → HasPair root.store t u → u ≡ t) where
  -- what is walked for the start tree is walked from the tree now
  abbrev from : Value → Walked A
  from u = walk d (fresh u) [] []

  pub the_paths : (xs : List (Found A)) → AllEnded d xs → Parts root (states xs) → AreThePaths d root.store xs
  the_paths xs ended parts = record {
    once = λ t u p. once t u p;
    none_else = λ k x t v a p. none k x t v a p;
    alive = parts.alive;
    rising = parts.rising;
  }
    where
      none : (k : ℕ) (x : Found A) (t v : Value) → IsAt xs k x → HasPair x.state.store t v → (u : Value) × HasPair root.store t u × EndsAs (from u) x v
      none k x t v a p =
          let h = parts.none_else t (holds_at xs k x t v a p) in
          (h.0, h.1, subst (λ u. EndsAs (from u) x v) (sym (known t h.0 h.1)) (ended_at d xs k x ended a t v p))

      once : (t u : Value) → HasPair root.store t u → Once (from u) xs t
      once t u p =
          let e = sym (known t u p) in
          let f = placed xs t (parts.all t u p) in
          let ends = subst (λ u. EndsAs (from u) f.path f.after) e (ended_at d xs f.place f.path ended f.is_there t f.after f.has) in
          record {
            place = f.place;
            path = f.path;
            is_there = f.is_there;
            has = subst (λ v. HasPair f.path.state.store t v) ends.tree f.has;
            ends = record { value = ends.value; trace = ends.trace; tree = refl };
            alone = λ j y v a b. (let other = subst (λ u. EndsAs (from u) y v) e (ended_at d xs j y ended a t v b) in
                one_place xs j f.place y f.path parts.rising a f.is_there (other.trace ∙ sym ends.trace));
          }

  played_in : (xs : List (Found A)) → AllEnded d xs → Parts root (states xs) → (ts : List (List Mark)) → AllPlayed d root.store ts → AllIn ts (traces (states xs))
  played_in xs ended parts [] h = tt
  played_in xs ended parts (t ∷ ts) h =
      let p = h.0 in
      let e = sym (known p.0 p.1 p.2) in
      let f = placed xs p.0 (parts.all p.0 p.1 p.2) in
      let ends = subst (λ u. EndsAs (from u) f.path f.after) e (ended_at d xs f.place f.path ended f.is_there p.0 f.after f.has) in
      (subst (λ l. In l (traces (states xs))) (ends.trace ∙ p.3) (trace_in xs f.place f.path f.is_there), played_in xs ended parts ts h.1)

  pub are_few : (xs : List (Found A)) (room : ℕ) → AllEnded d xs → Parts root (states xs) → length xs ≤ room → AreFew d root.store room
  are_few xs room ended parts c ts r h =
      let n = few ts (traces (states xs)) r (played_in xs ended parts ts h) in
      let k = traces_length (states xs) in let l = states_length xs in omega (arith, n, k, l, c)

  -- ---- too many

  -- what is walked from some pair begins with this trace
  abbrev Met : List Mark → Type 0
  Met f = (t : Value) × (u : Value) × HasPair root.store t u × Begins f (from u).trace

  abbrev AllMet : List (List Mark) → Type 0
  AllMet [] = Unit {0}
  AllMet (f ∷ fs) = Met f × AllMet fs

  stage_met : (x : PathState) → IsStage d x → Alive x.store → ((t : Value) → (v : Value) × HasPair x.store t v → (u : Value) × HasPair root.store t u) → Met x.trace
  stage_met x s a back =
      let p = some_pair x.store a in
      let q = back p.0 (p.1, p.2) in
      let h = extends s.0 (world_of x p.2.0) x.trace s.1 in
      (p.0, q.0, q.1, record { more = h.marks; is = ap (λ u. (from u).trace) (known p.0 q.0 q.1) ∙ ap (λ (r : Walked A). r.trace) (sym (s.2.walks p.0 p.2.0 p.2.1)) ∙ h.trace_is })

  ended_met : (x : Found A) → HasEnded d x → Alive x.state.store → ((t : Value) → (v : Value) × HasPair x.state.store t v → (u : Value) × HasPair root.store t u) → Met x.state.trace
  ended_met x ended a back =
      let p = some_pair x.state.store a in
      let q = back p.0 (p.1, p.2) in
      (p.0, q.0, q.1, record { more = []; is = ap (λ u. (from u).trace) (known p.0 q.0 q.1) ∙ sym (ended p.0 p.1 p.2).trace ∙ sym (nil_right x.state.trace) })

  items_met : (items : List (Item A)) → AllItems d items → AllAlive (item_states items) → ((t : Value) → Holds (item_states items) t → (u : Value) × HasPair root.store t u) → AllMet (traces (item_states items))
  items_met [] s a back = tt
  items_met (Waiting x ∷ items) s a back = (stage_met x s.0 a.0 (λ t p. back t (inl p)), items_met items s.1 a.1 (λ t h. back t (inr h)))
  items_met (Ended path ∷ items) s a back = (ended_met path s.0 a.0 (λ t p. back t (inl p)), items_met items s.1 a.1 (λ t h. back t (inr h)))

  pub all_met : (xs : List (Found A)) (items : List (Item A)) → AllEnded d xs → AllItems d items → AllAlive (states xs ++ item_states items) → ((t : Value) → Holds (states xs ++ item_states items) t → (u : Value) × HasPair root.store t u) → AllMet (traces (states xs ++ item_states items))
  all_met [] items e s a back = items_met items s a back
  all_met (x ∷ xs) items e s a back = (ended_met x e.0 a.0 (λ t p. back t (inl p)), all_met xs items e.1 s a.1 (λ t h. back t (inr h)))

  ends_of : (fs : List (List Mark)) → AllMet fs → List (List Mark)
  ends_of [] h = []
  ends_of (f ∷ fs) h = (from h.0.1).trace ∷ ends_of fs h.1

  ends_after : (t u : List Mark) (fs : List (List Mark)) (h : AllMet fs) → AllAfter t fs → Begins t u → AllAfter u (ends_of fs h)
  unfolding ends_of
  ends_after t u [] h a b = tt
  ends_after t u (f ∷ fs) h a b = (before_right u f (from h.0.1).trace (before_left t f u a.0 b) h.0.3, ends_after t u fs h.1 a.1 b)

  ends_rise : (fs : List (List Mark)) (h : AllMet fs) → Rising fs → Rising (ends_of fs h)
  unfolding ends_of
  ends_rise [] h r = tt
  ends_rise (f ∷ fs) h r = (ends_after f (from h.0.1).trace fs h.1 r.0 h.0.3, ends_rise fs h.1 r.1)

  ends_played : (fs : List (List Mark)) (h : AllMet fs) → AllPlayed d root.store (ends_of fs h)
  unfolding ends_of
  ends_played [] h = tt
  ends_played (f ∷ fs) h = ((h.0.0, h.0.1, h.0.2, refl), ends_played fs h.1)

  ends_length : (fs : List (List Mark)) (h : AllMet fs) → length (ends_of fs h) ≡ length fs
  unfolding ends_of
  ends_length [] h = refl
  ends_length (f ∷ fs) h = ap suc (ends_length fs h.1)

  pub too_many : (xs : List (Found A)) (items : List (Item A)) (room : ℕ) → AllEnded d xs → AllItems d items → Parts root (states xs ++ item_states items) → room < length xs + length items → AreTooMany d root.store room
  too_many xs items room e s parts lt =
      let ys = item_states items in
      let met = all_met xs items e s parts.alive parts.none_else in
      let fs = traces (states xs ++ ys) in
      record {
        traces = ends_of fs met;
        rising = ends_rise fs met parts.rising;
        played = ends_played fs met;
        count = (let a = ends_length fs met in let b = traces_length (states xs ++ ys) in let c = length-append (states xs) ys in let f = states_length xs in let h = items_length items in omega (arith, a, b, c, f, h, lt));
      }
