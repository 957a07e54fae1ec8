use Rattle.std.proofs.Common.{◌≡◌, refl, length}
use Rattle.clause_solver.specs.Written.{literals_from}
use Rattle.clause_solver.proofs.InOrder.{below, contains_below, in_order}
use Rattle.clause_solver.proofs.Covering.{covers_iff}
use Rattle.clause_solver.proofs.store.Store.clause.Goals as goal

literals_are : (c : goal.In_ok-literals) → c.in_ok-literals.literals ≡ literals_from 0 c.self.inside.lists.vars
literals_are c = c.in_ok-literals.ensures

pub returns-clause-covers : goal.returns-clause-covers
returns-clause-covers c t u =
    let inv = c.self.invariant in
    rw (← c.self.view_is) (covers_iff c.self.inside.lists.vars c.self.inside.current inv.decided.order inv.now_known inv.now_tree inv.start_tree _ (literals_are c) refl refl t u)

pub returns-clause-solved : goal.returns-clause-solved
returns-clause-solved c =
    let inv = c.self.invariant in
    let vars = c.self.inside.lists.vars in
    (below (length vars), rw (literals_are c) (in_order vars inv.decided.order), contains_below (length vars) c.self.inside.current inv.now_known)
