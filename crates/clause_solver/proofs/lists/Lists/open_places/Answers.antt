use Rattle.std.proofs.Common.{◌≡◌, ◌<◌, ◌∙◌, ap, arith, length, subst, sym, IsTrue, ℕ}
use Rattle.std.proofs.lemmas.List.{with_items_is}
use Rattle.clause_solver.specs.Opens.{mark_at}
use Rattle.clause_solver.proofs.Opens.{has_entry_next, satisfied_opened, reasoned_more}
use Rattle.clause_solver.proofs.lists.Lists.open_places.Goals as goal

pub open_for-requires-clause-inside : goal.open_for-requires-clause-inside
open_for-requires-clause-inside c = rw c.number_at-x.ensures (c.requires.decided.filled.each c.loop-k.k (subst (λ n. c.loop-k.k < n) c.len-k-end.ensures c.loop-k-test.true)).0

pub open_for-requires-clause-has_entry : goal.open_for-requires-clause-has_entry
open_for-requires-clause-has_entry c t =
    let inside : c.number_at-x.result < length c.args.self.now.vars = rw c.number_at-x.ensures (c.requires.decided.filled.each c.loop-k.k (subst (λ n. c.loop-k.k < n) c.len-k-end.ensures c.loop-k-test.true)).0 in
    (c.requires.satisfied c.number_at-x.result inside).filled t

pub loop-k-preserved : goal.loop-k-preserved
loop-k-preserved c =
    let vars = c.args.self.now.vars in
    let numbers = c.args.self.now.filled in
    let old = c.loop-k.marks.items in
    let new = c.open_for.new.marks in
    let same : length new ≡ length old = c.open_for.ensures.same ∙ ap length c.deref_mut.ensures.value in
    let e : length new ≡ c.loop-k.marks.len = same ∙ sym c.loop-k.marks.ok.0 in
    let is = with_items_is c.loop-k.marks new e in
    let more : (n : ℕ) → IsTrue (mark_at old n) → IsTrue (mark_at new n) = rw c.deref_mut.ensures.value at c.open_for.ensures.more in
    record {
      same = rw is (same ∙ c.loop-k.invariant.same);
      looked = rw is (has_entry_next vars c.args.self.now.best numbers old new c.loop-k.k more c.loop-k.invariant.looked (rw c.number_at-x.ensures at c.open_for.ensures.filled));
      reasoned = rw is (reasoned_more vars c.args.self.now.best old new c.number_at-x.result c.loop-k.invariant.reasoned (rw c.deref_mut.ensures.value at c.open_for.ensures.reasoned));
    }

pub returns-clause-satisfied : goal.returns-clause-satisfied
returns-clause-satisfied c =
    let done = c.loop-k-test.false in
    satisfied_opened c.args.self.now.vars c.args.self.now.best c.args.self.now.filled c.loop-k.marks.items c.requires.decided.filled c.requires.satisfied
    (λ k w. c.loop-k.invariant.looked k (omega (arith, w, done)))
