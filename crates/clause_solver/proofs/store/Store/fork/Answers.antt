use Rattle.clause_solver.proofs.store.Store.fork.Goals as goal

pub invariant_of-result : goal.invariant_of-result
invariant_of-result c =
    let inv = c.self.invariant in
    record {
      decided = rw c.in_ok-lists.ensures inv.decided;
      now_known = rw c.in_ok-lists.ensures inv.now_known;
      now_tree = rw c.in_ok-lists.ensures inv.now_tree;
      start_tree = rw c.in_ok-lists.ensures inv.start_tree;
    }
