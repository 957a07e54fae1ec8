use Rattle.std.proofs.Common.{arith}
use Rattle.feature_trees.proofs.Found.{entries_length, entries_get, there_get}
use Rattle.feature_trees.proofs.value.Entries.get_at.Goals as goal

pub returns-then-at-items-clause-some : goal.returns-then-at-items-clause-some
returns-then-at-items-clause-some c = (
  there_get c.as_slice-items.result.now c.self.inside.items.items c.args.at c.index-items-at.result c.as_slice-items.ensures.value c.self.invariant.0 c.if-at-items.true c.index-items-at.is,
  entries_get c.as_slice-items.result.now c.self.inside.items.items c.args.self.now c.args.at c.index-items-at.result c.as_slice-items.ensures.value c.self.view_is c.if-at-items.true c.index-items-at.is,
)

pub returns-else-at-items-clause-none : goal.returns-else-at-items-clause-none
returns-else-at-items-clause-none c =
    omega (arith, entries_length c.as_slice-items.result.now c.self.inside.items.items c.args.self.now c.as_slice-items.ensures.value c.self.view_is, c.if-at-items.false)
