-- A whole run keeps the four laws where its body does.
use Rattle.std.proofs.Common.{◌≡◌, ◌⊎◌, inl, inr, ℕ, IsTrue, refl, sym, ap, subst, ◌∙◌, arith}
use Rattle.shell_rules.specs.State as st
use Rattle.shell_rules.specs.State.{State, Run, Go, Left, Action}
use Rattle.shell_rules.specs.Whole.{ended_by, begun, place_in}
use Rattle.shell_rules.specs.Laws.{state_of, Extends, run_with_more, IsBound, IsLawful}
use Rattle.shell_rules.specs.Laws.{ended_with_more, is_bound_end, WholeKeeps}

ended_trace : (q : Run (Unit {0})) → (ended_by q).trace ≡ (state_of q).trace
ended_trace (Go v s) = refl
ended_trace (Left how s) = refl

ended_turns : (q : Run (Unit {0})) → (ended_by q).conc.turns ≡ (state_of q).conc.turns
ended_turns (Go v s) = refl
ended_turns (Left how s) = refl

ended_premises : (q : Run (Unit {0})) → (ended_by q).conc.premises ≡ (state_of q).conc.premises
ended_premises (Go v s) = refl
ended_premises (Left how s) = refl

bound_end : (q : Run (Unit {0})) → IsBound q → IsTrue (is_bound_end (ended_by q).end)
bound_end (Go v s) b = absurd b
bound_end (Left st.Broke s) b = absurd (cc b)
bound_end (Left st.Continued s) b = absurd (cc b)
bound_end (Left st.Returned s) b = absurd (cc b)
bound_end (Left st.Exited s) b = absurd (cc b)
bound_end (Left (st.Stopped why site) s) b = absurd (cc b)
bound_end (Left (st.Bound site) s) b = refl

ended_more : (n : ℕ) (q : Run (Unit {0})) → ended_by (run_with_more n q) ≡ ended_with_more n (ended_by q)
ended_more n (Go v s) = refl
ended_more n (Left st.Broke s) = refl
ended_more n (Left st.Continued s) = refl
ended_more n (Left st.Returned s) = refl
ended_more n (Left st.Exited s) = refl
ended_more n (Left (st.Stopped why site) s) = refl
ended_more n (Left (st.Bound site) s) = refl

ended_same : (n : ℕ) (q r : Run (Unit {0})) → IsBound q ⊎ (r ≡ run_with_more n q)
    → IsTrue (is_bound_end (ended_by q).end) ⊎ (ended_by r ≡ ended_with_more n (ended_by q))
ended_same n q r (inl b) = inl (bound_end q b)
ended_same n q r (inr e) = inr (ap ended_by e ∙ ended_more n q)

pub whole_keeps : (body : Action) → IsLawful body → WholeKeeps body
whole_keeps body h = record {
  trace = λ step functions conc tree trace.
      let q = body (place_in step functions) (begun conc tree trace) in
      subst (λ t. Extends trace t) (sym (ended_trace q)) (h (place_in step functions) 0 (begun conc tree trace)).trace;
  turns = λ step functions conc tree trace.
      let le = (h (place_in step functions) 0 (begun conc tree trace)).turns in
      let is = ended_turns (body (place_in step functions) (begun conc tree trace)) in omega (arith, le, is);
  premises = λ step functions conc tree trace.
      ended_premises (body (place_in step functions) (begun conc tree trace))
      ∙ (h (place_in step functions) 0 (begun conc tree trace)).premises;
  same = λ n step functions conc tree trace.
      let q = body (place_in step functions) (begun conc tree trace) in
      ended_same n q _ (h (place_in step functions) n (begun conc tree trace)).same;
}
