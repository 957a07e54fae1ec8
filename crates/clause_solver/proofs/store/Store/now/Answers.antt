use Rattle.clause_solver.specs.Stands.{Stands}
use Rattle.clause_solver.proofs.OneMore.{seen_of}
use Rattle.clause_solver.proofs.Unique.{unique}
use Rattle.clause_solver.proofs.store.Store.now.Goals as goal

pub returns-clause-unique : goal.returns-clause-unique
returns-clause-unique c t g h sg sh =
    let vars = c.self.inside.lists.vars in
    let now = c.self.inside.current in
    let g_is : Stands (seen_of vars now) t g = rw (← c.self.view_is) at sg in
    let h_is : Stands (seen_of vars now) t h = rw (← c.self.view_is) at sh in
    unique vars now c.self.invariant.decided.order t g h g_is h_is
