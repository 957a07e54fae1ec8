use Rattle.std.proofs.Common.{◌<◌, length, arith}
use Rattle.clause_solver.specs.Aims.{IsLed}
use Rattle.clause_solver.specs.Variables.{AlwaysDir, OnlyDir}
use Rattle.clause_solver.proofs.Deciding.{left_alive}
use Rattle.clause_solver.proofs.Led.{led_always, led_exact}
use Rattle.clause_solver.proofs.store.Store.lead.Goals as goal
use Rattle.clause_solver.proofs.store.Store.lead.Goals.{In_ok-lead}

module _ (c : In_ok-lead) where
  is_led : IsLed c.self.inside.lists.vars c.args.x.0 c.args.target.now c.lead.new.self.vars
  is_led = rw c.in_ok-new.ensures at c.in_ok-lead.ensures.led

  now_known : c.self.inside.current < length c.lead.new.self.vars
  now_known = let a = c.self.invariant.now_known in let e = is_led.long in omega (arith, a, e)

  now_tree : AlwaysDir c.lead.new.self.vars c.self.inside.current
  now_tree = led_always c.self.inside.lists.vars c.lead.new.self.vars c.args.x.0 c.args.target.now is_led c.self.inside.current c.self.invariant.now_tree

  start_tree : OnlyDir c.lead.new.self.vars 0
  start_tree = is_led.first c.self.invariant.start_tree

pub lead-requires-clause-decided : goal.lead-requires-clause-decided
lead-requires-clause-decided c = rw c.in_ok-new.ensures c.self.invariant.decided

pub lead-requires-clause-inside : goal.lead-requires-clause-inside
lead-requires-clause-inside c =
    let known : c.args.x.0 < length c.self.inside.lists.vars = rw (← c.self.view_is) at c.requires in
    rw c.in_ok-new.ensures known

pub invariant_of-self : goal.invariant_of-self
invariant_of-self c =
    let at_step = (goal.at.invariant_of-self c).In_ok-lead in
    record {
      decided = c.in_ok-lead.ensures.decided;
      now_known = now_known at_step;
      now_tree = now_tree at_step;
      start_tree = start_tree at_step;
    }

pub returns-clause-exact : goal.returns-clause-exact
returns-clause-exact c t g =
    let at_step = (goal.at.returns-clause-exact c).In_ok-lead in
    rw (← c.self.view_is) (led_exact c.self.inside.lists.vars c.lead.new.self.vars c.args.x.0 c.args.target.now (is_led at_step) c.self.inside.current c.self.invariant.decided.order c.in_ok-lead.ensures.decided.order t g)

pub returns-clause-alive : goal.returns-clause-alive
returns-clause-alive c =
    let at_step = (goal.at.returns-clause-alive c).In_ok-lead in
    let decided = c.in_ok-lead.ensures.decided in
    let some = left_alive c.lead.new.self.vars c.self.inside.current decided.order (now_tree at_step) (start_tree at_step) in
    (λ t. some.0 (decided.alive.0 t), λ a. decided.alive.1 (some.1 a))
