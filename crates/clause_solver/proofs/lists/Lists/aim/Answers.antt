use Rattle.std.proofs.Common.{refl}
use Rattle.clause_solver.specs.declared.lists.Lists.{Lists}
use Rattle.clause_solver.proofs.Aimed.{aimed_decided}
use Rattle.clause_solver.proofs.lists.Lists.aim.Goals as goal

pub returns-clause-decided : goal.returns-clause-decided
returns-clause-decided c =
    let old = c.args.self.now in
    let new : Lists = record { vars = c.aim.new.vars; best = old.best; kin = old.kin; filled = old.filled; alive = old.alive } in
    aimed_decided old new c.args.x c.args.target.now c.requires.decided c.requires.inside c.requires.place c.in_ok-aim.ensures refl refl refl refl
