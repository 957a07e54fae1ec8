use Rattle.std.proofs.Common.{Some, None, subst}
use Rattle.clause_solver.specs.Emptied.{EndsAt, IsClosed}
use Rattle.clause_solver.proofs.Without.{closed_within, emptied_within}
use Rattle.clause_solver.proofs.lists.Lists.with_fence.Goals as goal

pub returns-in_ok-new-in-Some-clause-within : goal.returns-in_ok-new-in-Some-clause-within
returns-in_ok-new-in-Some-clause-within c =
    let way = c.in_ok-way.way in
    let old = c.args.self.now.vars in
    let ends : EndsAt old c.args.x c.args.fence.now way.lists.vars way.names (Some c.in-Some.n) = subst (EndsAt old c.args.x c.args.fence.now way.lists.vars way.names) c.in-Some.is c.in_ok-way.ensures.ends in
    let new = c.in_ok-new-in-Some.new.vars in
    let closed : IsClosed way.lists.vars c.in-Some.n way.names new = subst (λ ns. IsClosed way.lists.vars c.in-Some.n ns new) c.as_slice.ensures c.in_ok-new-in-Some.ensures.closed in
    closed_within old way.lists.vars c.args.x c.in-Some.n c.args.fence.now way.names new ends.0 closed

pub returns-in-None-clause-within : goal.returns-in-None-clause-within
returns-in-None-clause-within c =
    let way = c.in_ok-way.way in
    let old = c.args.self.now.vars in
    let ends : EndsAt old c.args.x c.args.fence.now way.lists.vars way.names None = subst (EndsAt old c.args.x c.args.fence.now way.lists.vars way.names) c.in-None.is c.in_ok-way.ensures.ends in
    emptied_within old c.args.x c.args.fence.now way.lists.vars ends
