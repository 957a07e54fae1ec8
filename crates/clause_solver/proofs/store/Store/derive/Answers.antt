use Rattle.std.proofs.Common.{◌<◌, length, refl}
use Rattle.clause_solver.specs.declared.store.Store.TheInside.{Inside}
use Rattle.clause_solver.specs.declared.variable.Definition.TheVariants.{Derived}
use Rattle.clause_solver.specs.Variables.{Earlier}
use Rattle.clause_solver.specs.Appends.{IsAppended, IsSingle}
use Rattle.clause_solver.proofs.Settles.{appended_settled, appended_extends, derived_single, derived_before, derived_is_put}
use Rattle.clause_solver.proofs.store.Store.derive.Goals as goal

module _ (c : goal.In_ok-z) where
  abbrev after : Inside
  after = record { lists = c.append.new.self; current = c.self.inside.current; alloc = c.self.inside.alloc }

  inside : (c.args.x.0 < length c.self.inside.lists.vars) × (c.args.y.0 < length c.self.inside.lists.vars)
  inside = rw (← c.self.view_is) at c.requires.known

  is : IsAppended c.self.inside.lists (Derived c.args.x.0 c.args.f.now c.args.y.0) c.append.new.self c.in_ok-z.z
  is = rw c.in_ok-name.ensures at c.in_ok-z.ensures.ok

  before : Earlier c.self.inside.lists.vars (length c.self.inside.lists.vars) (Derived c.args.x.0 c.args.f.now c.args.y.0)
  before = derived_before c.self.inside.lists.vars c.args.x.0 c.args.y.0 c.args.f.now inside.0 inside.1 c.is_sound.ensures

  single : IsSingle c.self.inside.lists.vars (Derived c.args.x.0 c.args.f.now c.args.y.0)
  single = derived_single c.self.inside.lists.vars c.args.x.0 c.args.y.0 c.args.f.now

pub invariant_of-self-2 : goal.invariant_of-self-2
invariant_of-self-2 c = appended_settled c.self.inside (after c) c.in_ok-z.z (Derived c.args.x.0 c.args.f.now c.args.y.0) c.self.invariant (before c) (single c) refl (is c)

pub returns-clause-extends : goal.returns-clause-extends
returns-clause-extends c = rw (← c.self.view_is) (appended_extends c.self.inside (after c) c.in_ok-z.z (Derived c.args.x.0 c.args.f.now c.args.y.0) c.self.invariant (before c) (single c) refl (is c))

pub returns-clause-put : goal.returns-clause-put
returns-clause-put c = derived_is_put c.self.inside (after c) c.in_ok-z.z c.args.x.0 c.args.y.0 c.args.f.now c.self.invariant (inside c).0 (inside c).1 c.is_sound.ensures refl (is c)
