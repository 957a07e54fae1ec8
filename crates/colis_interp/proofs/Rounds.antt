-- A round of a `while`, by what comes behind its condition and its body.
use Rattle.std.proofs.Common.{◌≡◌, ◌<◌, ℕ, zero, suc, Bool, true, Result, Ok, Err, refl, sym, ap, ◌∙◌, subst, arith}
use Rattle.shell_rules.specs.declared.leave.Leave.TheVariants as leave
use Rattle.shell_rules.specs.State as st
use Rattle.shell_rules.specs.State.{Run, State, Place, Action, then_do, except, site_of}
use Rattle.shell_rules.specs.Loops.{after_body, after_condition, take_turn, while_rounds}
use Rattle.colis_interp.specs.declared.shell.Shell.{Shell}
use Rattle.colis_interp.specs.declared.halt.Halt.{Halt}
use Rattle.colis_interp.specs.declared.halt.Behind.TheVariants.{Holds, Ends, Again}
use Rattle.colis_interp.specs.Halts.{Answer, behind_body, behind_condition}
use Rattle.colis_interp.specs.Runs.{Runs, state_of}
use Rattle.colis_interp.proofs.Steps.{halts, condition_holds, condition_ends, condition_again, condition_left, body_done, body_left}

-- an answer that is known
pub answer_is : {A : Type 0} (r : Result A Halt) (x y : A) → ◌≡◌ {A = Result A Halt} (Ok x) r → x ≡ y → r ≡ Ok y
answer_is {A} r x y e same = subst (λ (z : A). r ≡ Ok z) same (sym e)

module _ (C B : Action) (q : Place) where
  -- the next round, where at most n take a turn
  abbrev next_of : ℕ → Bool → State → Run (Unit {0})
  next_of zero last s = st.Left (leave.Bound (site_of q)) s
  next_of (suc n) last s = while_rounds n C B q last s

  abbrev holds_of : ℕ → State → Run (Unit {0})
  holds_of n s = then_do (take_turn q s) (λ _ s. after_body (B q s) (λ s. next_of n s.conc.status s))

  abbrev again_of : ℕ → Bool → State → Run (Unit {0})
  again_of n last s = then_do (take_turn q s) (λ _ s. next_of n last s)

  round_is : (n : ℕ) (last : Bool) (s : State) → while_rounds n C B q last s ≡ after_condition (C (except q) s) last (holds_of n) (again_of n last)
  round_is zero last s = refl
  round_is (suc n) last s = refl

  pub round_left : (n : ℕ) (last : Bool) (s : State) (r : Answer) (t : Shell) (h : Halt) → behind_condition r t.conc.status ≡ Err h → Runs (C (except q) s) r t → Runs (while_rounds n C B q last s) (Err h) t
  round_left n last s r t h o e =
      subst (λ x. Runs x (Err h) t) (sym (round_is n last s)) (condition_left (C (except q) s) last (holds_of n) (again_of n last) r t h o e)

  pub round_ends : (n : ℕ) (last : Bool) (s : State) (r : Answer) (t : Shell) → behind_condition r t.conc.status ≡ Ok Ends → Runs (C (except q) s) r t → while_rounds n C B q last s ≡ st.Go tt (st.with_status last (state_of t))
  round_ends n last s r t o e = round_is n last s ∙ condition_ends (C (except q) s) last (holds_of n) (again_of n last) r t o e

  turned : (n : ℕ) (last : Bool) (s : State) (r : Answer) (t : Shell) (t2 : State) → behind_condition r t.conc.status ≡ Ok Holds → Runs (C (except q) s) r t → take_turn q (state_of t) ≡ st.Go tt t2
      → while_rounds n C B q last s ≡ after_body (B q t2) (λ s. next_of n s.conc.status s)
  turned n last s r t t2 o e g =
      round_is n last s ∙ condition_holds (C (except q) s) last (holds_of n) (again_of n last) r t o e
      ∙ ap (λ x. then_do x (λ _ s. after_body (B q s) (λ s. next_of n s.conc.status s))) g

  pub round_body_left : (n : ℕ) (last : Bool) (s : State) (r : Answer) (t : Shell) (t2 : State) (b : Answer) (u : Shell) (h : Halt) → behind_condition r t.conc.status ≡ Ok Holds → Runs (C (except q) s) r t → take_turn q (state_of t) ≡ st.Go tt t2
      → behind_body b ≡ Err h → Runs (B q t2) b u → Runs (while_rounds n C B q last s) (Err h) u
  round_body_left n last s r t t2 b u h o e g k x =
      subst (λ y. Runs y (Err h) u) (sym (turned n last s r t t2 o e g)) (body_left (B q t2) (λ s. next_of n s.conc.status s) b u h k x)

  step : (n : ℕ) (last : Bool) (s : State) → 0 < n → (m : ℕ) × (n ≡ suc m) × (next_of n last s ≡ while_rounds m C B q last s)
  step zero last s lt = absurd (omega arith)
  step (suc n) last s lt = (n, refl, refl)

  pub round_next : (n : ℕ) (last : Bool) (s : State) (r : Answer) (t : Shell) (t2 : State) (b : Answer) (u : Shell) → 0 < n → behind_condition r t.conc.status ≡ Ok Holds → Runs (C (except q) s) r t → take_turn q (state_of t) ≡ st.Go tt t2
      → behind_body b ≡ Ok true → Runs (B q t2) b u → (m : ℕ) × (n ≡ suc m) × (while_rounds n C B q last s ≡ while_rounds m C B q u.conc.status (state_of u))
  round_next n last s r t t2 b u lt o e g k x =
      let next = step n u.conc.status (state_of u) lt in
      (next.0, next.1, turned n last s r t t2 o e g ∙ body_done (B q t2) (λ s. next_of n s.conc.status s) b u k x ∙ next.2)

  pub round_again_left : (n : ℕ) (last : Bool) (s : State) (r : Answer) (t : Shell) (h : Halt) (u : Shell) → behind_condition r t.conc.status ≡ Ok Again → Runs (C (except q) s) r t → Runs (take_turn q (state_of t)) (Err h) u
      → Runs (while_rounds n C B q last s) (Err h) u
  round_again_left n last s r t h u o e k =
      subst (λ x. Runs x (Err h) u) (sym (round_is n last s ∙ condition_again (C (except q) s) last (holds_of n) (again_of n last) r t o e))
      (halts (take_turn q (state_of t)) (λ _ s. next_of n last s) h u k)

  pub round_again : (n : ℕ) (last : Bool) (s : State) (r : Answer) (t : Shell) (t2 : State) → 0 < n → behind_condition r t.conc.status ≡ Ok Again → Runs (C (except q) s) r t → take_turn q (state_of t) ≡ st.Go tt t2
      → (m : ℕ) × (n ≡ suc m) × (while_rounds n C B q last s ≡ while_rounds m C B q last t2)
  round_again n last s r t t2 lt o e g =
      let next = step n last t2 lt in
      (next.0, next.1, round_is n last s ∙ condition_again (C (except q) s) last (holds_of n) (again_of n last) r t o e ∙ ap (λ x. then_do x (λ _ s. next_of n last s)) g ∙ next.2)
