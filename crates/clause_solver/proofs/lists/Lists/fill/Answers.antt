use Rattle.std.proofs.Common.{◌≡◌, ◌&&◌, ◌↔◌, IsTrue, [], refl}
use Rattle.clause_solver.specs.declared.lists.Lists.{Lists}
use Rattle.clause_solver.specs.Greatest.{HasEntryOutside, unfenced}
use Rattle.clause_solver.specs.Variables.{filled}
use Rattle.clause_solver.proofs.Filled.{filled_order, filled_linked}
use Rattle.clause_solver.proofs.HasEntries.{replaced_nothing}
use Rattle.clause_solver.proofs.ListSteps.{filled_decided}
use Rattle.clause_solver.proofs.lists.Lists.fill.Goals as goal

pub has_entry_outside-has-requires-clause-order : goal.has_entry_outside-has-requires-clause-order
has_entry_outside-has-requires-clause-order c = rw c.in_ok-fill.ensures (filled_order c.args.self.now.vars c.args.x c.requires.inside c.requires.decided.order)

pub has_entry_outside-has-requires-clause-linked : goal.has_entry_outside-has-requires-clause-linked
has_entry_outside-has-requires-clause-linked c = rw c.in_ok-fill.ensures (filled_linked c.args.self.now.vars c.args.x c.requires.inside c.args.self.now.kin c.requires.decided.linked)

pub returns-clause-decided : goal.returns-clause-decided
returns-clause-decided c =
    let old = c.args.self.now in
    let has = c.has_entry_outside-has.result in
    let new : Lists = record { vars = c.fill.new.vars; best = old.best; kin = old.kin; filled = c.push_alone.new.list; alive = (old.alive && has) } in
    let vars_are : c.fill.new.vars ≡ filled old.vars c.args.x = c.in_ok-fill.ensures in
    let has_one : IsTrue has ↔ HasEntryOutside (filled old.vars c.args.x) old.best (unfenced (filled old.vars c.args.x)) c.args.x [] =
    rw (replaced_nothing, vars_are) at c.has_entry_outside-has.ensures in
    filled_decided old new c.args.x c.requires.decided c.requires.inside vars_are has has_one refl refl c.in_ok-push_alone.ensures.ok refl
