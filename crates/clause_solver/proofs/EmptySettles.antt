-- A store in which a variable has entries under some names alone is settled.
use Rattle.std.proofs.Common.{◌≡◌, ℕ, List, arith}
use Rattle.clause_solver.specs.declared.store.Store.TheInside.{Inside}
use Rattle.clause_solver.specs.Emptied.{IsWithin}
use Rattle.clause_solver.specs.Decided.{AreDecided}
use Rattle.clause_solver.specs.View.{IsSettled}
use Rattle.clause_solver.proofs.Without.{within_always}

pub within_settled : (a b : Inside) (x : ℕ) (fence : List (List ℕ)) → IsSettled a → AreDecided b.lists → IsWithin a.lists.vars x fence b.lists.vars → b.current ≡ a.current → IsSettled b
within_settled a b x fence inv t w now =
    let less = w.more in
    let known = inv.now_known in
    record {
      decided = t;
      now_known = rw now (omega (arith, known, less));
      now_tree = rw now (within_always a.lists.vars x fence b.lists.vars a.current known w inv.now_tree);
      start_tree = w.first inv.start_tree;
    }
