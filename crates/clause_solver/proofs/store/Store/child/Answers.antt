use Rattle.std.proofs.Common.{◌≡◌, ◌<◌, ℕ, length, refl}
use Rattle.clause_solver.specs.declared.appended.Found.TheVariants.{Known, Nothing, At}
use Rattle.clause_solver.specs.declared.store.Store.TheInside.{Inside}
use Rattle.clause_solver.specs.declared.variable.MadeValue.TheVariants as made
use Rattle.clause_solver.specs.declared.variable.Definition.TheVariants.{Child, Made}
use Rattle.clause_solver.specs.Variables.{Earlier, IsChild}
use Rattle.clause_solver.specs.Appends.{LeadsTo, IsAppended, IsSingle}
use Rattle.clause_solver.proofs.Leads.{known_entry, found_entry}
use Rattle.clause_solver.proofs.Settles.{appended_settled, appended_extends, made_single, child_single, absent_is_entry, child_before, child_is_entry}
use Rattle.clause_solver.proofs.store.Store.child.Goals as goal

pub returns-in-Known-clause-entry : goal.returns-in-Known-clause-entry
returns-in-Known-clause-entry c =
    let leads : LeadsTo c.self.inside.lists.vars c.args.x.0 c.args.f.now (Known c.in-Known.y) = c.in-Known.ensures in
    rw (← c.self.view_is) (known_entry c.self.inside.lists.vars c.self.inside.current c.args.x.0 c.in-Known.y c.args.f.now c.self.invariant.decided.order leads)

pub returns-in-Some-clause-entry : goal.returns-in-Some-clause-entry
returns-in-Some-clause-entry c =
    let leads : LeadsTo c.self.inside.lists.vars c.args.x.0 c.args.f.now (At c.in-At.n) = c.in-At.ensures in
    let child : IsChild c.self.inside.lists.vars c.in-At.n c.args.f.now c.in-Some.y = c.in-Some.ensures in
    rw (← c.self.view_is) (found_entry c.self.inside.lists.vars c.self.inside.current c.args.x.0 c.in-At.n c.in-Some.y c.args.f.now c.self.invariant.decided.order leads child)

module _ (c : goal.In_ok-y-in-Nothing) where
  abbrev new_absent : Inside
  new_absent = record { lists = c.append.new.self; current = c.self.inside.current; alloc = c.self.inside.alloc }

  known_absent : c.args.x.0 < length c.self.inside.lists.vars
  known_absent = rw (← c.self.view_is) at c.requires

  leads_absent : LeadsTo c.self.inside.lists.vars c.args.x.0 c.args.f.now Nothing
  leads_absent = c.in-Nothing.ensures

  is_absent : IsAppended c.self.inside.lists (Made made.Absent) c.append.new.self c.in_ok-y-in-Nothing.y
  is_absent = c.in_ok-y-in-Nothing.ensures.ok

pub invariant_of-self-in-Nothing : goal.invariant_of-self-in-Nothing
invariant_of-self-in-Nothing c = appended_settled c.self.inside (new_absent c) c.in_ok-y-in-Nothing.y (Made made.Absent) c.self.invariant tt (made_single c.self.inside.lists.vars made.Absent) refl (is_absent c)

pub returns-in_ok-y-in-Nothing-clause-extends : goal.returns-in_ok-y-in-Nothing-clause-extends
returns-in_ok-y-in-Nothing-clause-extends c = rw (← c.self.view_is) (appended_extends c.self.inside (new_absent c) c.in_ok-y-in-Nothing.y (Made made.Absent) c.self.invariant tt (made_single c.self.inside.lists.vars made.Absent) refl (is_absent c))

pub returns-in_ok-y-in-Nothing-clause-entry : goal.returns-in_ok-y-in-Nothing-clause-entry
returns-in_ok-y-in-Nothing-clause-entry c = absent_is_entry c.self.inside (new_absent c) c.in_ok-y-in-Nothing.y c.args.x.0 c.args.f.now c.self.invariant (known_absent c) refl (is_absent c) (leads_absent c)

module _ (c : goal.In_ok-y-in-At) where
  abbrev new_child : Inside
  new_child = record { lists = c.append-in-At.new.self; current = c.self.inside.current; alloc = c.self.inside.alloc }

  known_child : c.args.x.0 < length c.self.inside.lists.vars
  known_child = rw (← c.self.view_is) at c.requires

  leads_child : LeadsTo c.self.inside.lists.vars c.args.x.0 c.args.f.now (At c.in-At.n)
  leads_child = c.in-At.ensures

  name_is : c.in_ok-name-in-At.name ≡ c.args.f.now
  name_is = c.in_ok-name-in-At.ensures

  is_child : IsAppended c.self.inside.lists (Child c.in-At.n c.args.f.now) c.append-in-At.new.self c.in_ok-y-in-At.y
  is_child = rw name_is at c.in_ok-y-in-At.ensures.ok

  none : (i : ℕ) → ¬ (IsChild c.self.inside.lists.vars c.in-At.n c.args.f.now i)
  none i h = c.in_default.ensures i h

  before : Earlier c.self.inside.lists.vars (length c.self.inside.lists.vars) (Child c.in-At.n c.args.f.now)
  before = child_before c.self.inside.lists.vars c.args.x.0 c.in-At.n c.args.f.now c.is_sound.ensures leads_child

  single : IsSingle c.self.inside.lists.vars (Child c.in-At.n c.args.f.now)
  single = child_single c.self.inside.lists.vars c.in-At.n c.args.f.now none

pub invariant_of-self-in-At : goal.invariant_of-self-in-At
invariant_of-self-in-At c = appended_settled c.self.inside (new_child c) c.in_ok-y-in-At.y (Child c.in-At.n c.args.f.now) c.self.invariant (before c) (single c) refl (is_child c)

pub returns-in_ok-y-in-At-clause-extends : goal.returns-in_ok-y-in-At-clause-extends
returns-in_ok-y-in-At-clause-extends c = rw (← c.self.view_is) (appended_extends c.self.inside (new_child c) c.in_ok-y-in-At.y (Child c.in-At.n c.args.f.now) c.self.invariant (before c) (single c) refl (is_child c))

pub returns-in_ok-y-in-At-clause-entry : goal.returns-in_ok-y-in-At-clause-entry
returns-in_ok-y-in-At-clause-entry c = child_is_entry c.self.inside (new_child c) c.in_ok-y-in-At.y c.args.x.0 c.in-At.n c.args.f.now c.self.invariant (known_child c) c.is_sound.ensures (none c) refl (is_child c) (leads_child c)
