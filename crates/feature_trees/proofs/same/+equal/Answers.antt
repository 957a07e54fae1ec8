use Rattle.std.proofs.Common.{length, sym, ap, ◌∙◌}
use Rattle.feature_trees.specs.View.{seen}
use Rattle.feature_trees.proofs.Found.{same_lists, get_same}
use Rattle.feature_trees.proofs.same.+equal.Goals as goal

pub same_entries-returns-then-a-b : goal.same_entries-returns-then-a-b
same_entries-returns-then-a-b t c = (
  λ x. cc,
  λ e.
      let lists = same_lists c.as_slice-a.result.now c.as_slice-b.result.now _ _ (rw c.as_slice-a.ensures.value c.a.invariant.0) (rw c.as_slice-b.ensures.value c.b.invariant.0)
      (ap seen c.as_slice-a.ensures.value ∙ c.a.view_is) (ap seen c.as_slice-b.ensures.value ∙ c.b.view_is) e in
      absurd (c.if-a-b.true (ap length lists)),
)

pub same_entries-returns-then-not-same_named : goal.same_entries-returns-then-not-same_named
same_entries-returns-then-not-same_named t c = (
  λ x. cc,
  λ e.
      let lists = same_lists c.as_slice-a.result.now c.as_slice-b.result.now _ _ (rw c.as_slice-a.ensures.value c.a.invariant.0) (rw c.as_slice-b.ensures.value c.b.invariant.0)
      (ap seen c.as_slice-a.ensures.value ∙ c.a.view_is) (ap seen c.as_slice-b.ensures.value ∙ c.b.view_is) e in
      sym c.if-not-same_named.true ∙ c.same_named.ensures.1 (get_same _ _ c.loop-i.i _ _ lists c.loop-i-test.true c.index-a-i.is c.index-b-i.is),
)
