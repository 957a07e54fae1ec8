use Rattle.std.proofs.Common.{◌≡◌, ◌<◌, ◌∙◌, ap, length, length-set, arith}
use Rattle.clause_solver.specs.declared.lists.Lists.{Lists}
use Rattle.clause_solver.specs.Variables.{AlwaysDir, OnlyDir, narrowed}
use Rattle.clause_solver.proofs.Deciding.{left_alive}
use Rattle.clause_solver.proofs.Narrowed.{narrowed_only, narrowed_always, narrowed_exact}
use Rattle.clause_solver.proofs.store.Store.limit.Goals as goal
use Rattle.clause_solver.proofs.store.Store.limit.Goals.{In_ok-narrow}

module _ (c : In_ok-narrow) where
  is_known : c.args.x.0 < length c.self.inside.lists.vars
  is_known = rw (← c.self.view_is) at c.requires

  vars_are : c.narrow.new.self.vars ≡ narrowed c.self.inside.lists.vars c.args.x.0 c.args.k
  vars_are = c.in_ok-narrow.ensures.narrowed ∙ ap (λ (l : Lists). narrowed l.vars c.args.x.0 c.args.k) c.in_ok-new.ensures

  now_known : c.self.inside.current < length c.narrow.new.self.vars
  now_known = let a = c.self.invariant.now_known in let e = ap length vars_are ∙ length-set c.self.inside.lists.vars c.args.x.0 _ in omega (arith, a, e)

  now_tree : AlwaysDir c.narrow.new.self.vars c.self.inside.current
  now_tree = rw vars_are (narrowed_always c.self.inside.lists.vars c.args.x.0 c.args.k is_known c.self.inside.current c.self.invariant.now_tree)

  start_tree : OnlyDir c.narrow.new.self.vars 0
  start_tree = rw vars_are (narrowed_only c.self.inside.lists.vars c.args.x.0 c.args.k is_known 0 c.self.invariant.start_tree)

pub narrow-requires-clause-decided : goal.narrow-requires-clause-decided
narrow-requires-clause-decided c = rw c.in_ok-new.ensures c.self.invariant.decided

pub narrow-requires-clause-inside : goal.narrow-requires-clause-inside
narrow-requires-clause-inside c =
    let known : c.args.x.0 < length c.self.inside.lists.vars = rw (← c.self.view_is) at c.requires in
    rw c.in_ok-new.ensures known

pub invariant_of-self : goal.invariant_of-self
invariant_of-self c =
    let at_step = (goal.at.invariant_of-self c).In_ok-narrow in
    record {
      decided = c.in_ok-narrow.ensures.decided;
      now_known = now_known at_step;
      now_tree = now_tree at_step;
      start_tree = start_tree at_step;
    }

pub returns-clause-exact : goal.returns-clause-exact
returns-clause-exact c t g =
    let at_step = (goal.at.returns-clause-exact c).In_ok-narrow in
    rw (vars_are at_step, ← c.self.view_is) (narrowed_exact c.self.inside.lists.vars c.args.x.0 c.args.k (is_known at_step) c.self.inside.current c.self.invariant.decided.order t g)

pub returns-clause-alive : goal.returns-clause-alive
returns-clause-alive c =
    let at_step = (goal.at.returns-clause-alive c).In_ok-narrow in
    let decided = c.in_ok-narrow.ensures.decided in
    let some = left_alive c.narrow.new.self.vars c.self.inside.current decided.order (now_tree at_step) (start_tree at_step) in
    (λ t. some.0 (decided.alive.0 t), λ a. decided.alive.1 (some.1 a))
