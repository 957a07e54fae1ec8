use Rattle.std.proofs.Common.{◌<◌, length, refl}
use Rattle.clause_solver.specs.declared.store.Store.TheInside.{Inside}
use Rattle.clause_solver.specs.declared.variable.Definition.TheVariants.{Ensured}
use Rattle.clause_solver.specs.Appends.{IsAppended}
use Rattle.clause_solver.proofs.Settles.{appended_settled, appended_extends, ensured_single, ensured_has}
use Rattle.clause_solver.proofs.store.Store.ensure.Goals as goal

module _ (c : goal.In_ok-y) where
  abbrev after : Inside
  after = record { lists = c.append.new.self; current = c.self.inside.current; alloc = c.self.inside.alloc }

  inside : c.args.x.0 < length c.self.inside.lists.vars
  inside = rw (← c.self.view_is) at c.requires.known

  is : IsAppended c.self.inside.lists (Ensured c.args.x.0) c.append.new.self c.in_ok-y.y
  is = c.in_ok-y.ensures.ok

pub invariant_of-self-2 : goal.invariant_of-self-2
invariant_of-self-2 c = appended_settled c.self.inside (after c) c.in_ok-y.y (Ensured c.args.x.0) c.self.invariant (inside c) (ensured_single c.self.inside.lists.vars c.args.x.0) refl (is c)

pub returns-clause-extends : goal.returns-clause-extends
returns-clause-extends c = rw (← c.self.view_is) (appended_extends c.self.inside (after c) c.in_ok-y.y (Ensured c.args.x.0) c.self.invariant (inside c) (ensured_single c.self.inside.lists.vars c.args.x.0) refl (is c))

pub returns-clause-entries : goal.returns-clause-entries
returns-clause-entries c = ensured_has c.self.inside (after c) c.in_ok-y.y c.args.x.0 c.self.invariant (inside c) refl (is c)
