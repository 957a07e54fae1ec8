use Rattle.std.proofs.Common.{◌≡◌, ◌<◌, ◌∙◌, ap, length, length-set, arith}
use Rattle.clause_solver.specs.declared.lists.Lists.{Lists}
use Rattle.clause_solver.specs.Variables.{AlwaysDir, OnlyDir, filled}
use Rattle.clause_solver.proofs.Deciding.{left_alive}
use Rattle.clause_solver.proofs.Filled.{filled_only, filled_always, filled_exact}
use Rattle.clause_solver.proofs.store.Store.not_empty.Goals as goal
use Rattle.clause_solver.proofs.store.Store.not_empty.Goals.{In_ok-fill}

module _ (c : In_ok-fill) where
  is_known : c.args.x.0 < length c.self.inside.lists.vars
  is_known = rw (← c.self.view_is) at c.requires

  vars_are : c.fill.new.self.vars ≡ filled c.self.inside.lists.vars c.args.x.0
  vars_are = c.in_ok-fill.ensures.filled ∙ ap (λ (l : Lists). filled l.vars c.args.x.0) c.in_ok-new.ensures

  now_known : c.self.inside.current < length c.fill.new.self.vars
  now_known = let a = c.self.invariant.now_known in let e = ap length vars_are ∙ length-set c.self.inside.lists.vars c.args.x.0 _ in omega (arith, a, e)

  now_tree : AlwaysDir c.fill.new.self.vars c.self.inside.current
  now_tree = rw vars_are (filled_always c.self.inside.lists.vars c.args.x.0 is_known c.self.inside.current c.self.invariant.now_tree)

  start_tree : OnlyDir c.fill.new.self.vars 0
  start_tree = rw vars_are (filled_only c.self.inside.lists.vars c.args.x.0 is_known 0 c.self.invariant.start_tree)

pub fill-requires-clause-decided : goal.fill-requires-clause-decided
fill-requires-clause-decided c = rw c.in_ok-new.ensures c.self.invariant.decided

pub fill-requires-clause-inside : goal.fill-requires-clause-inside
fill-requires-clause-inside c =
    let known : c.args.x.0 < length c.self.inside.lists.vars = rw (← c.self.view_is) at c.requires in
    rw c.in_ok-new.ensures known

pub invariant_of-self : goal.invariant_of-self
invariant_of-self c =
    let at_step = (goal.at.invariant_of-self c).In_ok-fill in
    record {
      decided = c.in_ok-fill.ensures.decided;
      now_known = now_known at_step;
      now_tree = now_tree at_step;
      start_tree = start_tree at_step;
    }

pub returns-clause-exact : goal.returns-clause-exact
returns-clause-exact c t g =
    let at_step = (goal.at.returns-clause-exact c).In_ok-fill in
    rw (vars_are at_step, ← c.self.view_is) (filled_exact c.self.inside.lists.vars c.args.x.0 (is_known at_step) c.self.inside.current c.self.invariant.decided.order t g)

pub returns-clause-alive : goal.returns-clause-alive
returns-clause-alive c =
    let at_step = (goal.at.returns-clause-alive c).In_ok-fill in
    let decided = c.in_ok-fill.ensures.decided in
    let some = left_alive c.fill.new.self.vars c.self.inside.current decided.order (now_tree at_step) (start_tree at_step) in
    (λ t. some.0 (decided.alive.0 t), λ a. decided.alive.1 (some.1 a))
