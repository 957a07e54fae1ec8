use Rattle.std.proofs.Common.{◌<◌, length}
use Rattle.clause_solver.specs.Stands.{IsDirectory}
use Rattle.clause_solver.specs.Variables.{AlwaysDir}
use Rattle.clause_solver.proofs.OneMore.{seen_of}
use Rattle.clause_solver.proofs.Moved.{always_of, moved_same}
use Rattle.clause_solver.proofs.store.Store.set_now.Goals as goal

known : (c : goal.After-self-1) → c.args.x.0 < length c.self.inside.lists.vars
known c = rw (← c.self.view_is) at c.requires.known

always : (c : goal.After-self-1) → AlwaysDir c.self.inside.lists.vars c.args.x.0
always c =
    let dir : IsDirectory (seen_of c.self.inside.lists.vars c.self.inside.current) c.args.x.0 = rw (← c.self.view_is) at c.requires.directory in
    let inv = c.self.invariant in
    always_of c.self.inside.lists.vars c.self.inside.current c.args.x.0 inv.decided.order inv.now_tree inv.start_tree dir

pub invariant_of-self : goal.invariant_of-self
invariant_of-self c =
    let inv = c.self.invariant in
    record { decided = inv.decided; now_known = known c; now_tree = always c; start_tree = inv.start_tree }

pub returns-clause-same : goal.returns-clause-same
returns-clause-same c t g =
    let inv = c.self.invariant in
    rw (← c.self.view_is) (moved_same c.self.inside.lists.vars c.self.inside.current c.args.x.0 inv.decided.order inv.now_tree (always c) t g)
