use Rattle.clause_solver.specs.declared.appended.Found.TheVariants.{Known, At}
use Rattle.clause_solver.specs.Variables.{IsChild}
use Rattle.clause_solver.specs.Appends.{LeadsTo}
use Rattle.clause_solver.proofs.Leads.{known_entry, found_entry}
use Rattle.clause_solver.proofs.store.Store.look.Goals as goal

pub returns-in-Known : goal.returns-in-Known
returns-in-Known c =
    let leads : LeadsTo c.self.inside.lists.vars c.args.x.0 c.args.f.now (Known c.in-Known.y) = c.in-Known.ensures in
    rw (← c.self.view_is) (known_entry c.self.inside.lists.vars c.self.inside.current c.args.x.0 c.in-Known.y c.args.f.now c.self.invariant.decided.order leads)

pub returns-in-Some : goal.returns-in-Some
returns-in-Some c =
    let leads : LeadsTo c.self.inside.lists.vars c.args.x.0 c.args.f.now (At c.in-At.n) = c.in-At.ensures in
    let child : IsChild c.self.inside.lists.vars c.in-At.n c.args.f.now c.in-Some.y = c.in-Some.ensures in
    rw (← c.self.view_is) (found_entry c.self.inside.lists.vars c.self.inside.current c.args.x.0 c.in-At.n c.in-Some.y c.args.f.now c.self.invariant.decided.order leads child)
