-- How decisions are put together, and runs that are decisions.
use Rattle.std.proofs.Common.{◌≡◌, ℕ, zero, suc, Bool, true, false, List, refl, sym, ap, ◌∙◌, if◌then◌else◌}
use Rattle.std.proofs.Common.{◌++◌, ◌∷◌, []}
use Rattle.script_names.specs.declared.mark.Mark.{Mark}
use Rattle.feature_trees.specs.declared.value.Value.{Value}
use Rattle.utility_calls.specs.declared.acts.Act.{Act}
use Rattle.utility_calls.specs.Acts.{row, tree_after}
use Rattle.utility_calls.specs.Decisions.{Decision, Decided, Asks, Played, play, mark_at, AllPerformed}
use Rattle.shell_rules.specs.declared.state.Conc.{Conc}
use Rattle.shell_rules.specs.declared.leave.Leave.{Leave}
use Rattle.shell_rules.specs.declared.leave.Leave.TheVariants.{Broke, Continued, Returned, Exited, Stopped, Bound}
use Rattle.shell_rules.specs.State.{State, Run, Go, Left}
use Rattle.shell_rules.specs.State.{then_do, closed_off, Place, Doing, site_of, with_status}
use Rattle.shell_rules.specs.Loops.{turn_from, take_turn, after_body, after_condition}

-- ---- one decision behind another

-- a decision, and then the one for its value
abbrev pub bind : {A B : Type 0} → Decision A → (A → Decision B) → Decision B
bind (Decided value) next = next value
bind (Asks site act after) next = Asks site act (λ answer. bind (after answer) next)

-- both are played one behind the other
pub bind_plays : {A B : Type 0} (d : Decision A) (next : A → Decision B) (tree : Value) (trace : List Mark)
    (acts : List Act) → let p : Played A = play d tree trace acts in
    play (bind d next) tree trace acts ≡ play (next p.value) p.tree p.trace p.acts
bind_plays (Decided value) next tree trace acts = refl
bind_plays (Asks site act after) next tree trace acts =
    bind_plays (after (row act tree).answer) next (tree_after act tree) (trace ++ mark_at site act tree ∷ [])
    (acts ++ act ∷ [])

pub bind_performed : {A B : Type 0} (d : Decision A) (next : A → Decision B) → AllPerformed d
    → ((value : A) → AllPerformed (next value)) → AllPerformed (bind d next)
bind_performed (Decided value) next h k = k value
bind_performed (Asks site act after) next h k = (h.0, λ answer. bind_performed (after answer) next (h.1 answer) k)

-- ---- runs that are decisions

-- what a run comes to but for the tree, the trace and the acts: it goes on with a value, or is left
pub data Came (A : Type 0) : Type 0 where
  On : (value : A) (conc : Conc) (substituted : Bool) → Came A
  Off : (how : Leave) (conc : Conc) (substituted : Bool) → Came A

-- a state of these parts
abbrev pub at : Conc → Bool → Value → List Mark → List Act → State
at conc substituted tree trace acts =
    record { conc = conc; tree = tree; trace = trace; acts = acts; substituted = substituted }

abbrev pub came : {A : Type 0} → Came A → Value → List Mark → List Act → Run A
came (On value conc substituted) tree trace acts = Go value (at conc substituted tree trace acts)
came (Off how conc substituted) tree trace acts = Left how (at conc substituted tree trace acts)

abbrev pub ran : {A : Type 0} → Played (Came A) → Run A
ran p = came p.value p.tree p.trace p.acts

-- what is run from each tree, behind each trace and acts, is one decision
pub record Plays {A : Type 0} (run : Value → List Mark → List Act → Run A) : Type 0 where
  pub decision : Decision (Came A)
  pub performed : AllPerformed decision
  pub plays : (tree : Value) (trace : List Mark) (acts : List Act)
      → run tree trace acts ≡ ran (play decision tree trace acts)

-- what is run from a state is a decision for each state of the shell
abbrev pub Decides : {A : Type 0} → (State → Run A) → Type 0
Decides run = (c : Conc) (b : Bool) → Plays (λ tree trace acts. run (at c b tree trace acts))

-- at every place
abbrev pub IsDecision : {A : Type 0} → Doing A → Type 0
IsDecision doing = (p : Place) → Decides (doing p)

-- a run that does no act
pub stays : {A : Type 0} (v : Came A) → Plays (came v)
stays v = record { decision = Decided v; performed = tt; plays = λ tree trace acts. refl }

-- what is done with a run
pub handle_plays : {A B : Type 0} (run : Value → List Mark → List Act → Run A) (h : Run A → Run B) → Plays run
    → ((v : Came A) → Plays (λ tree trace acts. h (came v tree trace acts)))
    → Plays (λ tree trace acts. h (run tree trace acts))
handle_plays {A} run h a k = record {
  decision = bind a.decision (λ v. (k v).decision);
  performed = bind_performed a.decision (λ v. (k v).decision) a.performed (λ v. (k v).performed);
  plays = λ tree trace acts.
      let p : Played (Came A) = play a.decision tree trace acts in
      ap h (a.plays tree trace acts) ∙ (k p.value).plays p.tree p.trace p.acts
      ∙ ap ran (sym (bind_plays a.decision (λ v. (k v).decision) tree trace acts));
}

-- a test of what is the same on each tree
pub if_plays : {A : Type 0} (b : Bool) (x y : Value → List Mark → List Act → Run A) → Plays x → Plays y
    → Plays (λ tree trace acts. if b then x tree trace acts else y tree trace acts)
if_plays true x y h k = h
if_plays false x y h k = k

-- ---- one after another

then_each : {A B : Type 0} (next : A → State → Run B) → ((value : A) → Decides (next value)) → (v : Came A)
    → Plays (λ tree trace acts. then_do (came v tree trace acts) next)
then_each next h (On value c b) = h value c b
then_each next h (Off how c b) = stays (Off how c b)

pub then_decides : {A B : Type 0} (run : State → Run A) (next : A → State → Run B) → Decides run
    → ((value : A) → Decides (next value)) → Decides (λ s. then_do (run s) next)
then_decides run next h k c b =
    handle_plays (λ tree trace acts. run (at c b tree trace acts)) (λ q. then_do q next) (h c b) (then_each next k)

-- ---- what is closed off

-- the state behind it, and the value, are made from those of the shell alone
pub record GoesBack {A : Type 0} (value : State → A) (back : State → State) : Type 0 where
  pub conc : Conc → Bool → Conc
  pub substituted : Conc → Bool → Bool
  pub gives : Conc → Bool → A
  pub is_state : (c : Conc) (b : Bool) (tree : Value) (trace : List Mark) (acts : List Act)
      → back (at c b tree trace acts) ≡ at (conc c b) (substituted c b) tree trace acts
  pub is_value : (c : Conc) (b : Bool) (tree : Value) (trace : List Mark) (acts : List Act)
      → value (at c b tree trace acts) ≡ gives c b

module _ {A : Type 0} (ends : Leave → Bool) (value : State → A) (back : State → State) (g : GoesBack value back) where
  goes : (c : Conc) (b : Bool)
      → Plays (λ tree trace acts. Go (value (at c b tree trace acts)) (back (at c b tree trace acts)))
  goes c b = record {
    decision = Decided (On (g.gives c b) (g.conc c b) (g.substituted c b));
    performed = tt;
    plays = λ tree trace acts.
        ap (λ x. Go x (back (at c b tree trace acts))) (g.is_value c b tree trace acts)
        ∙ ap (Go (g.gives c b)) (g.is_state c b tree trace acts);
  }

  leaves : (how : Leave) (c : Conc) (b : Bool)
      → Plays {A = A} (λ tree trace acts. Left how (back (at c b tree trace acts)))
  leaves how c b = record {
    decision = Decided (Off how (g.conc c b) (g.substituted c b));
    performed = tt;
    plays = λ tree trace acts. ap (Left how) (g.is_state c b tree trace acts);
  }

  closed_each : (v : Came (Unit {0})) → Plays (λ tree trace acts. closed_off ends value back (came v tree trace acts))
  closed_each (On v c b) = goes c b
  closed_each (Off how c b) =
      if_plays (ends how) (λ tree trace acts. Go (value (at c b tree trace acts)) (back (at c b tree trace acts)))
      (λ tree trace acts. Left how (back (at c b tree trace acts))) (goes c b) (leaves how c b)

pub closed_plays : {A : Type 0} (ends : Leave → Bool) (value : State → A) (back : State → State)
    (run : Value → List Mark → List Act → Run (Unit {0})) → GoesBack value back → Plays run
    → Plays (λ tree trace acts. closed_off ends value back (run tree trace acts))
closed_plays ends value back run g h =
    handle_plays run (closed_off ends value back) h (closed_each ends value back g)

-- ---- turns and loops

turn_from_plays : (m : ℕ) (p : Place) (c : Conc) (b : Bool)
    → Plays (λ tree trace acts. turn_from m p (at c b tree trace acts))
turn_from_plays zero p c b = stays (Off (Bound (site_of p)) c b)
turn_from_plays (suc m) p c b = stays (On tt (record c { turns = m }) b)

pub turn_decided : IsDecision take_turn
turn_decided p c b = turn_from_plays c.turns p c b

module _ (next : State → Run (Unit {0})) (h : Decides next) where
  body_each : (v : Came (Unit {0})) → Plays (λ tree trace acts. after_body (came v tree trace acts) next)
  body_each (On v c b) = h c b
  body_each (Off Broke c b) = stays (On tt c b)
  body_each (Off Continued c b) = h c b
  body_each (Off Returned c b) = stays (Off Returned c b)
  body_each (Off Exited c b) = stays (Off Exited c b)
  body_each (Off (Stopped reason site) c b) = stays (Off (Stopped reason site) c b)
  body_each (Off (Bound site) c b) = stays (Off (Bound site) c b)

pub body_plays : (run : Value → List Mark → List Act → Run (Unit {0})) (next : State → Run (Unit {0})) → Plays run
    → Decides next → Plays (λ tree trace acts. after_body (run tree trace acts) next)
body_plays run next h k = handle_plays run (λ q. after_body q next) h (body_each next k)

module _ (last : Bool) (holds again : State → Run (Unit {0})) (h : Decides holds) (k : Decides again) where
  condition_each : (v : Came (Unit {0}))
      → Plays (λ tree trace acts. after_condition (came v tree trace acts) last holds again)
  condition_each (On v c b) =
      if_plays c.status (λ tree trace acts. holds (at c b tree trace acts))
      (λ tree trace acts. Go tt (with_status last (at c b tree trace acts))) (h c b)
      (stays (On tt (record c { status = last }) b))
  condition_each (Off Broke c b) = stays (On tt (record c { status = last }) b)
  condition_each (Off Continued c b) = k c b
  condition_each (Off Returned c b) = stays (Off Returned c b)
  condition_each (Off Exited c b) = stays (Off Exited c b)
  condition_each (Off (Stopped reason site) c b) = stays (Off (Stopped reason site) c b)
  condition_each (Off (Bound site) c b) = stays (Off (Bound site) c b)

pub condition_plays : (last : Bool) (run : Value → List Mark → List Act → Run (Unit {0}))
    (holds again : State → Run (Unit {0})) → Plays run → Decides holds → Decides again
    → Plays (λ tree trace acts. after_condition (run tree trace acts) last holds again)
condition_plays last run holds again h k l =
    handle_plays run (λ q. after_condition q last holds again) h (condition_each last holds again k l)
