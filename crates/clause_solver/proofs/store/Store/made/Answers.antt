use Rattle.std.proofs.Common.{refl}
use Rattle.clause_solver.specs.declared.store.Store.TheInside.{Inside}
use Rattle.clause_solver.specs.declared.variable.Definition.TheVariants.{Made}
use Rattle.clause_solver.specs.Appends.{IsAppended}
use Rattle.clause_solver.proofs.Settles.{appended_settled, appended_extends, made_single, made_is_value}
use Rattle.clause_solver.proofs.store.Store.made.Goals as goal

module _ (c : goal.In_ok-y) where
  abbrev after : Inside
  after = record { lists = c.append.new.self; current = c.self.inside.current; alloc = c.self.inside.alloc }

  is : IsAppended c.self.inside.lists (Made c.args.value) c.append.new.self c.in_ok-y.y
  is = c.in_ok-y.ensures.ok

pub invariant_of-self-2 : goal.invariant_of-self-2
invariant_of-self-2 c = appended_settled c.self.inside (after c) c.in_ok-y.y (Made c.args.value) c.self.invariant tt (made_single c.self.inside.lists.vars c.args.value) refl (is c)

pub returns-clause-extends : goal.returns-clause-extends
returns-clause-extends c = rw (← c.self.view_is) (appended_extends c.self.inside (after c) c.in_ok-y.y (Made c.args.value) c.self.invariant tt (made_single c.self.inside.lists.vars c.args.value) refl (is c))

pub returns-clause-value : goal.returns-clause-value
returns-clause-value c = made_is_value c.self.inside (after c) c.in_ok-y.y c.args.value c.self.invariant refl (is c)
