use Rattle.tree_clauses.proofs.KindSets.{of_dir}
use Rattle.store_tests.proofs.emptied.without.Goals as goal

pub derive-requires-clause-directory : goal.derive-requires-clause-directory
derive-requires-clause-directory c t v st =
    let kind = (c.in_ok-left.ensures.exact t v).0 st in
    of_dir _ (rw c.of.ensures at kind.1)
