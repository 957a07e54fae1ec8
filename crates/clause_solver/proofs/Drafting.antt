-- One literal more, or one variable more, on the way through a case.
use Rattle.std.proofs.Common.{◌≡◌, ◌≢◌, ℕ, ◌<◌, ◌↔◌, inl, inr, Some, None, List, ◌∷◌, length, take, sym, ap, ◌∙◌, arith}
use Rattle.std.proofs.lemmas.List.{get_or-take, length-take-le, take_all}
use Rattle.feature_trees.specs.declared.value.Value.TheVariants as value
use Rattle.tree_clauses.specs.declared.clause.Literal.{Literal}
use Rattle.tree_clauses.specs.declared.clause.Var.{Var}
use Rattle.tree_clauses.specs.Literals.{Valuation, value_of_variable, Meets, MeetsAll, IsSound}
use Rattle.clause_solver.specs.declared.variable.Definition.{Definition}
use Rattle.clause_solver.specs.declared.variable.Variable.{Variable}
use Rattle.clause_solver.specs.Adds.{given_at}
use Rattle.clause_solver.specs.Variables.{AllFit, defined}
use Rattle.clause_solver.specs.Drafts.{Places, Agrees, Narrows, Leaves}
use Rattle.clause_solver.proofs.Entered.{take_less}
use Rattle.clause_solver.proofs.Names.{nat_cases}
use Rattle.clause_solver.proofs.OneMore.{sound_take}

-- nothing is narrowed
pub narrows_nothing : (vars : List Variable) → Narrows vars vars (λ g. Unit {0})
narrows_nothing vars = record {
  more = omega arith;
  first = λ f. f;
  down = λ g long sound fits. let whole : take (length vars) g ≡ g = take_all (length vars) g (omega (arith, long)) in (rw whole fits, tt);
  up = λ g long sound fits p. (g, long, sound, fits, take_all (length vars) g (omega (arith, long)));
}

module _ (old mid new : List Variable) (given : List Var) (before : List Literal) (places : Places) (l : Leaves old given before places mid) (inside : (x n : ℕ) → places x ≡ Some n → n < length mid) where
  agrees_short : (g h : Valuation) → Agrees places g h → Agrees places (take (length mid) g) h
  agrees_short g h a x n e = a x n e ∙ sym (get_or-take (length mid) g n value.Absent (inside x n e))

  agrees_long : (k j h : Valuation) → take (length mid) j ≡ k → Agrees places k h → Agrees places j h
  agrees_long k j h e a x n p = a x n p ∙ sym (ap (λ u. value_of_variable u n) e) ∙ get_or-take (length mid) j n value.Absent (inside x n p)

  -- a literal on variables that have a place
  pub narrowed : (literal here : Literal) → Narrows mid new (λ g. Meets g here) → ((g h : Valuation) → Agrees places g h → Meets g here ↔ Meets h literal) → Leaves old given (literal ∷ before) places new
  narrowed literal here s is =
      let less = l.more in
      let more = s.more in
      record {
        more = omega (arith, less, more);
        first = λ f. s.first (l.first f);
        start = l.start;
        down = λ g long sound fits.
            let short = take (length mid) g in
            let parts = s.down g long sound fits in
            let below = l.down short (length-take-le (length mid) g (omega (arith, long, more))) (sound_take (length mid) g (omega (arith, long, more)) sound) parts.0 in (
              rw (take_less (length old) (length mid) g less) at below.0,
              λ h hs a. let b = agrees_short g h a in ((is short h b).0 parts.1, below.1 h hs b),
            );
        up = λ g h long gs fits hs e meets.
            let k = l.up g h long gs fits hs e meets.1 in
            let j = s.up k.0 k.1 k.2 k.3 ((is k.0 h k.5).1 meets.0) in
            (j.0, j.1, j.2, j.3, sym (take_less (length old) (length mid) j.0 less) ∙ ap (take (length old)) j.4 ∙ k.4, agrees_long k.0 j.0 h j.4 k.5);
      }

  -- a variable that gets a place
  module _ (places' : Places) (v place : ℕ) (d : Definition) (none : places v ≡ None) (here : places' v ≡ Some place) (other : (x : ℕ) → x ≢ v → places' x ≡ places x) where
    not_it : (x n : ℕ) → places x ≡ Some n → x ≢ v
    not_it x n e q = let bad : None ≡ Some n = sym none ∙ ap places (sym q) ∙ e in cc

    agrees_old : (g h : Valuation) → Agrees places' g h → Agrees places g h
    agrees_old g h a x n e = a x n (other x (not_it x n e) ∙ e)

    agrees_new : (g h : Valuation) → Agrees places g h → value_of_variable h v ≡ value_of_variable g place → Agrees places' g h
    agrees_new g h a same x n e = elim (nat_cases x v) [
      | inl q ↦
          let p : Some n ≡ Some place = sym e ∙ ap places' q ∙ here in
          let at : n ≡ place = cc in
          ap (value_of_variable h) q ∙ same ∙ ap (value_of_variable g) (sym at)
      | inr ne ↦ a x n (sym (other x ne) ∙ e)
    ]

    pub grown : (literals : List Literal) → Narrows mid new (λ g. Unit {0})
        → ((g h : Valuation) → length g ≡ length new → IsSound g → AllFit new g → Agrees places g h → value_of_variable g place ≡ defined h d)
        → ((h : Valuation) → IsSound h → MeetsAll h literals ↔ ((value_of_variable h v ≡ defined h d) × MeetsAll h before)) → Leaves old given literals places' new
    grown literals s is says =
        let less = l.more in
        let more = s.more in
        record {
          more = omega (arith, less, more);
          first = λ f. s.first (l.first f);
          start = λ i w. other i (not_it i (given_at given i) (l.start i w)) ∙ l.start i w;
          down = λ g long sound fits.
              let short = take (length mid) g in
              let parts = s.down g long sound fits in
              let below = l.down short (length-take-le (length mid) g (omega (arith, long, more))) (sound_take (length mid) g (omega (arith, long, more)) sound) parts.0 in (
                rw (take_less (length old) (length mid) g less) at below.0,
                λ h hs a.
                    let b = agrees_old g h a in
                    (says h hs).1 (a v place here ∙ is g h long sound fits b, below.1 h hs (agrees_short g h b)),
              );
          up = λ g h long gs fits hs e meets.
              let parts = (says h hs).0 meets in
              let k = l.up g h long gs fits hs e parts.1 in
              let j = s.up k.0 k.1 k.2 k.3 tt in
              let a = agrees_long k.0 j.0 h j.4 k.5 in
              (j.0, j.1, j.2, j.3, sym (take_less (length old) (length mid) j.0 less) ∙ ap (take (length old)) j.4 ∙ k.4, agrees_new j.0 h a (parts.0 ∙ sym (is j.0 h j.1 j.2 j.3 a)));
        }
