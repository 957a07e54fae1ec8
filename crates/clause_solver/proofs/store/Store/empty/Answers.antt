use Rattle.std.proofs.Common.{◌<◌, [], length, refl}
use Rattle.clause_solver.specs.declared.store.Store.TheInside.{Inside}
use Rattle.clause_solver.specs.View.{IsSettled}
use Rattle.clause_solver.proofs.Deciding.{left_alive}
use Rattle.clause_solver.proofs.Without.{within_empties}
use Rattle.clause_solver.proofs.EmptySettles.{within_settled}
use Rattle.clause_solver.proofs.store.Store.empty.Goals as goal
use Rattle.clause_solver.proofs.store.Store.empty.Goals.{In_ok-new}

module _ (c : In_ok-new) where
  abbrev after : Inside
  after = record { lists = c.in_ok-new.new; current = c.self.inside.current; alloc = c.self.inside.alloc }

  settled : IsSettled after
  settled = within_settled c.self.inside after c.args.x.0 [] c.self.invariant c.in_ok-new.ensures.decided c.in_ok-new.ensures.within refl

pub invariant_of-self : goal.invariant_of-self
invariant_of-self c = settled (goal.at.invariant_of-self c).In_ok-new

pub returns-clause-empties : goal.returns-clause-empties
returns-clause-empties c =
    let inv = c.self.invariant in
    let inside : c.args.x.0 < length c.self.inside.lists.vars = rw (← c.self.view_is) at c.requires in
    rw (← c.self.view_is) (within_empties c.self.inside.lists.vars c.args.x.0 c.in_ok-new.new.vars c.self.inside.current inv.decided.order c.in_ok-new.ensures.decided.order inside inv.now_known c.in_ok-new.ensures.within)

pub returns-clause-alive : goal.returns-clause-alive
returns-clause-alive c =
    let decided = c.in_ok-new.ensures.decided in
    let at_new = settled (goal.at.returns-clause-alive c).In_ok-new in
    let some = left_alive c.in_ok-new.new.vars c.self.inside.current decided.order at_new.now_tree at_new.start_tree in
    (λ t. some.0 (decided.alive.0 t), λ a. decided.alive.1 (some.1 a))
