-- How the four laws pass from the parts of a run to the whole.
use Rattle.std.proofs.Common.{◌≡◌, ◌≤◌, ◌<◌, ◌+◌, ℕ, zero, suc, Bool, true, false, IsTrue, List, [], ◌++◌, ◌⊎◌}
use Rattle.std.proofs.Common.{inl, inr, refl, sym, ap, subst, ◌∙◌, if◌then◌else◌, append-nil, append_assoc, arith}
use Rattle.script_names.specs.declared.mark.Mark.{Mark}
use Rattle.shell_rules.specs.State.{State, Leave, Broke, Continued, Returned, Exited, Stopped, Bound, Run, Go, Left}
use Rattle.shell_rules.specs.State.{then_do, closed_off, Place, with_status}
use Rattle.shell_rules.specs.Loops.{with_turns, turn_from, take_turn, after_body, after_condition}
use Rattle.shell_rules.specs.Laws.{state_of, Extends, more_turns, run_with_more, is_bound, IsBound, Keeps, Lawful}

pub extends_same : (t : List Mark) → Extends t t
extends_same t = record { more = []; is = sym (append-nil t) }

pub extends_more : {t u v : List Mark} → Extends t u → Extends u v → Extends t v
extends_more {t = t} a b =
    record { more = a.more ++ b.more; is = b.is ∙ ap (λ x. x ++ b.more) a.is ∙ append_assoc t a.more b.more }

-- with more turns it is the same run, unless it is bound
abbrev pub Same : {A : Type 0} → ℕ → Run A → Run A → Type 0
Same n q r = IsBound q ⊎ (r ≡ run_with_more n q)

-- a run that goes on or is left with the trace, the turns and the premises as they were
pub stays : {A : Type 0} {n : ℕ} {s : State} {q r : Run A} → (state_of q).trace ≡ s.trace
    → (state_of q).conc.turns ≡ s.conc.turns → (state_of q).conc.premises ≡ s.conc.premises → r ≡ run_with_more n q
    → Keeps n s q r
stays {s = s} e f g h = record {
  trace = subst (λ t. Extends s.trace t) (sym e) (extends_same s.trace);
  turns = omega (arith, f);
  premises = g;
  same = inr h;
}

-- the same from a state with the same trace and premises, and with at least as many turns
pub from_same : {A : Type 0} {n : ℕ} {s t : State} {q r : Run A} → s.trace ≡ t.trace
    → s.conc.turns ≤ t.conc.turns → s.conc.premises ≡ t.conc.premises → Keeps n s q r → Keeps n t q r
from_same {q = q} e f g h = record {
  trace = subst (λ x. Extends x (state_of q).trace) e h.trace;
  turns = let le = h.turns in omega (arith, le, f);
  premises = h.premises ∙ g;
  same = h.same;
}

-- ---- what is done with a run

-- from each run that ends with at most as many turns as a state has, and with its premises, what is done with it; what
-- is bound stays so
pub record Handles {A B : Type 0} (n : ℕ) (s : State) (h g : Run A → Run B) : Type 0 where
  pub each : (q : Run A) → (state_of q).conc.turns ≤ s.conc.turns → (state_of q).conc.premises ≡ s.conc.premises
      → Keeps n (state_of q) (h q) (g (run_with_more n q))
  pub bound : (how : Leave) (t : State) → IsTrue (is_bound how) → IsBound (h (Left how t))

still_bound : {A B : Type 0} (q : Run A) (h : Run A → Run B)
    → ((how : Leave) (t : State) → IsTrue (is_bound how) → IsBound (h (Left how t))) → IsBound q → IsBound (h q)
still_bound (Go v t) h k b = absurd b
still_bound (Left how t) h k b = k how t b

handled_same : {A B : Type 0} (n : ℕ) (q r : Run A) (h g : Run A → Run B) → (IsBound q → IsBound (h q))
    → Same n (h q) (g (run_with_more n q)) → Same n q r → Same n (h q) (g r)
handled_same n q r h g k a (inl b) = inl (k b)
handled_same n q r h g k a (inr e) = subst (λ x. Same n (h q) (g x)) (sym e) a

pub handle_keeps : {A B : Type 0} {n : ℕ} {s : State} (q r : Run A) (h g : Run A → Run B)
    → Keeps n s q r → Handles n s h g → Keeps n s (h q) (g r)
handle_keeps {n = n} {s = s} q r h g a k =
    let next = k.each q a.turns a.premises in record {
      trace = extends_more a.trace next.trace;
      turns = let le = a.turns in let lt = next.turns in omega (arith, le, lt);
      premises = next.premises ∙ a.premises;
      same = handled_same n q r h g (still_bound q h k.bound) next.same a.same;
    }

-- what follows a run, from each state that has at most so many turns
abbrev pub Follows : {A B : Type 0} → ℕ → ℕ → (A → State → Run B) → (A → State → Run B) → Type 0
Follows {A} n m k l = (v : A) (t : State) → t.conc.turns ≤ m → Keeps n t (k v t) (l v (more_turns n t))

then_each : {A B : Type 0} (n m : ℕ) (k l : A → State → Run B) → Follows n m k l
    → (q : Run A) → (state_of q).conc.turns ≤ m → Keeps n (state_of q) (then_do q k) (then_do (run_with_more n q) l)
then_each n m k l h (Go v t) le = h v t le
then_each n m k l h (Left how t) le = stays refl refl refl refl

pub then_keeps : {A B : Type 0} {n : ℕ} {s : State} (q r : Run A) (k l : A → State → Run B) → Keeps n s q r
    → Follows n s.conc.turns k l → Keeps n s (then_do q k) (then_do r l)
then_keeps {n = n} {s = s} q r k l a h =
    handle_keeps q r (λ x. then_do x k) (λ x. then_do x l) a
    (record { each = λ x le _. then_each n s.conc.turns k l h x le; bound = λ how t b. b })

-- what is lawful, and then what is lawful for each value
pub then_lawful : {A B : Type 0} (a : State → Run A) (k : A → State → Run B) → Lawful a → ((v : A) → Lawful (k v))
    → Lawful (λ s. then_do (a s) k)
then_lawful a k ha hk n s = then_keeps (a s) (a (more_turns n s)) k k (ha n s) (λ v t le. hk v n t)

-- a test that does not look at the turns
pub if_keeps : {A : Type 0} {n : ℕ} {s : State} (b : Bool) (x y u v : Run A) → Keeps n s x u → Keeps n s y v
    → Keeps n s (if b then x else y) (if b then u else v)
if_keeps true x y u v a c = a
if_keeps false x y u v a c = c

-- ---- what is closed off

-- the state behind it has the trace and the turns of the state in which it ended, and the premises of the state before
-- it, which that one has too
pub record GoesBack {A : Type 0} (n : ℕ) (s : State) (ends : Leave → Bool) (value : State → A)
    (back other : State → State) : Type 0 where
  pub trace : (t : State) → (back t).trace ≡ t.trace
  pub turns : (t : State) → (back t).conc.turns ≡ t.conc.turns
  pub premises : (t : State) → t.conc.premises ≡ s.conc.premises → (back t).conc.premises ≡ t.conc.premises
  pub more : (t : State) → other (more_turns n t) ≡ more_turns n (back t)
  pub same_value : (t : State) → value (more_turns n t) ≡ value t
  pub bound : (how : Leave) → IsTrue (is_bound how) → ends how ≡ false

go_same : {A : Type 0} (n : ℕ) (v w : A) (s u : State) → w ≡ v → u ≡ more_turns n s
    → ◌≡◌ {A = Run A} (Go w u) (run_with_more n (Go v s))
go_same n v w s u e f i = Go (e i) (f i)

left_bound : {A : Type 0} (b : Bool) (v : A) (how : Leave) (s : State) → b ≡ false → IsTrue (is_bound how)
    → IsBound (if b then Go v s else Left how s)
left_bound true v how s e h = absurd (cc e)
left_bound false v how s e h = h

module _ {A : Type 0} (n : ℕ) (s : State) (ends : Leave → Bool) (value : State → A) (back other : State → State)
    (g : GoesBack n s ends value back other) where
  closed_each : (q : Run (Unit {0})) → (state_of q).conc.premises ≡ s.conc.premises
      → Keeps n (state_of q) (closed_off ends value back q) (closed_off ends value other (run_with_more n q))
  closed_each (Go v t) same =
      stays (g.trace t) (g.turns t) (g.premises t same) (go_same n _ _ (back t) _ (g.same_value t) (g.more t))
  closed_each (Left how t) same =
      if_keeps (ends how) (Go (value t) (back t)) (Left how (back t))
      (Go (value (more_turns n t)) (other (more_turns n t))) (Left how (other (more_turns n t)))
      (stays (g.trace t) (g.turns t) (g.premises t same) (go_same n _ _ (back t) _ (g.same_value t) (g.more t)))
      (stays (g.trace t) (g.turns t) (g.premises t same) (ap (λ x. Left how x) (g.more t)))

pub closed_keeps : {A : Type 0} {n : ℕ} {s : State} (ends : Leave → Bool) (value : State → A)
    (back other : State → State) (q r : Run (Unit {0})) → GoesBack n s ends value back other
    → Keeps n s q r → Keeps n s (closed_off ends value back q) (closed_off ends value other r)
closed_keeps {n = n} {s = s} ends value back other q r g a =
    handle_keeps q r (closed_off ends value back) (closed_off ends value other) a (record {
      each = λ q le same. closed_each n s ends value back other g q same;
      bound = λ how t b. left_bound (ends how) (value t) how (back t) (g.bound how b) b;
    })

-- ---- turns

-- what follows a turn, from each state that has fewer turns
abbrev pub FollowsTurn : {B : Type 0} → ℕ → ℕ → (State → Run B) → (State → Run B) → Type 0
FollowsTurn n m k l = (t : State) → t.conc.turns < m → Keeps n t (k t) (l (more_turns n t))

turn_from_keeps : {B : Type 0} (n m : ℕ) (p : Place) (s : State) (k l : State → Run B) → s.conc.turns ≡ m
    → FollowsTurn n m k l
    → Keeps n s (then_do (turn_from m p s) (λ _. k))
    (then_do (turn_from (s.conc.turns + n) p (more_turns n s)) (λ _. l))
turn_from_keeps n zero p s k l e h =
    record { trace = extends_same s.trace; turns = omega arith; premises = refl; same = inl refl }
turn_from_keeps n (suc m) p s k l e h =
    let more : suc (m + n) ≡ s.conc.turns + n = omega (arith, e) in
    subst (λ x. Keeps n s (k (with_turns m s)) (then_do (turn_from x p (more_turns n s)) (λ _. l))) more
    (from_same refl (omega (arith, e)) refl (h (with_turns m s) (omega arith)))

pub turn_keeps : {B : Type 0} {n : ℕ} {s : State} (p : Place) (k l : State → Run B) → FollowsTurn n s.conc.turns k l
    → Keeps n s (then_do (take_turn p s) (λ _. k)) (then_do (take_turn p (more_turns n s)) (λ _. l))
turn_keeps {n = n} {s = s} p k l h = turn_from_keeps n s.conc.turns p s k l refl h

-- ---- loops

-- the next round, from each state with at most so many turns
abbrev pub NextKeeps : {B : Type 0} → ℕ → ℕ → (State → Run B) → (State → Run B) → Type 0
NextKeeps n m k l = (t : State) → t.conc.turns ≤ m → Keeps n t (k t) (l (more_turns n t))

module _ (n m : ℕ) (next other : State → Run (Unit {0})) (h : NextKeeps n m next other) where
  body_each : (q : Run (Unit {0})) → (state_of q).conc.turns ≤ m
      → Keeps n (state_of q) (after_body q next) (after_body (run_with_more n q) other)
  body_each (Go v t) le = h t le
  body_each (Left Broke t) le = stays refl refl refl refl
  body_each (Left Continued t) le = h t le
  body_each (Left Returned t) le = stays refl refl refl refl
  body_each (Left Exited t) le = stays refl refl refl refl
  body_each (Left (Stopped reason site) t) le = stays refl refl refl refl
  body_each (Left (Bound site) t) le = stays refl refl refl refl

  body_bound : (how : Leave) (t : State) → IsTrue (is_bound how) → IsBound (after_body (Left how t) next)
  body_bound Broke t b = absurd (cc b)
  body_bound Continued t b = absurd (cc b)
  body_bound Returned t b = absurd (cc b)
  body_bound Exited t b = absurd (cc b)
  body_bound (Stopped reason site) t b = absurd (cc b)
  body_bound (Bound site) t b = refl

pub body_keeps : {n : ℕ} {s : State} (q r : Run (Unit {0})) (next other : State → Run (Unit {0})) → Keeps n s q r
    → NextKeeps n s.conc.turns next other → Keeps n s (after_body q next) (after_body r other)
body_keeps {n = n} {s = s} q r next other a h =
    handle_keeps q r (λ x. after_body x next) (λ x. after_body x other) a
    (record {
      each = λ x le _. body_each n s.conc.turns next other h x le;
      bound = body_bound n s.conc.turns next other h;
    })

module _ (n m : ℕ) (last : Bool) (holds again holds' again' : State → Run (Unit {0}))
    (h : NextKeeps n m holds holds') (k : NextKeeps n m again again') where
  condition_each : (q : Run (Unit {0})) → (state_of q).conc.turns ≤ m
      → Keeps n (state_of q) (after_condition q last holds again)
      (after_condition (run_with_more n q) last holds' again')
  condition_each (Go v t) le =
      if_keeps t.conc.status (holds t) (Go tt (with_status last t)) (holds' (more_turns n t))
      (Go tt (with_status last (more_turns n t))) (h t le) (stays refl refl refl refl)
  condition_each (Left Broke t) le = stays refl refl refl refl
  condition_each (Left Continued t) le = k t le
  condition_each (Left Returned t) le = stays refl refl refl refl
  condition_each (Left Exited t) le = stays refl refl refl refl
  condition_each (Left (Stopped reason site) t) le = stays refl refl refl refl
  condition_each (Left (Bound site) t) le = stays refl refl refl refl

  condition_bound : (how : Leave) (t : State) → IsTrue (is_bound how)
      → IsBound (after_condition (Left how t) last holds again)
  condition_bound Broke t b = absurd (cc b)
  condition_bound Continued t b = absurd (cc b)
  condition_bound Returned t b = absurd (cc b)
  condition_bound Exited t b = absurd (cc b)
  condition_bound (Stopped reason site) t b = absurd (cc b)
  condition_bound (Bound site) t b = refl

pub condition_keeps : {n : ℕ} {s : State} (last : Bool) (q r : Run (Unit {0}))
    (holds again holds' again' : State → Run (Unit {0})) → Keeps n s q r
    → NextKeeps n s.conc.turns holds holds' → NextKeeps n s.conc.turns again again'
    → Keeps n s (after_condition q last holds again) (after_condition r last holds' again')
condition_keeps {n = n} {s = s} last q r holds again holds' again' a h k =
    handle_keeps q r (λ x. after_condition x last holds again) (λ x. after_condition x last holds' again') a
    (record {
      each = λ x le _. condition_each n s.conc.turns last holds again holds' again' h k x le;
      bound = condition_bound n s.conc.turns last holds again holds' again' h k;
    })
