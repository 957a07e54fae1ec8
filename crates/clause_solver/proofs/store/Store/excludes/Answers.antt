use Rattle.std.proofs.Common.{◌≡◌, ◌<◌, length}
use Rattle.feature_trees.specs.Kinds.{none, both}
use Rattle.clause_solver.specs.Stands.{Stands}
use Rattle.clause_solver.specs.Variables.{var_at, possible}
use Rattle.clause_solver.proofs.OneMore.{seen_of}
use Rattle.clause_solver.proofs.Excluded.{excluded}
use Rattle.clause_solver.proofs.store.Store.excludes.Goals as goal

pub returns : goal.returns
returns c is t g s =
    let vars = c.self.inside.lists.vars in
    let now = c.self.inside.current in
    let stands : Stands (seen_of vars now) t g = rw (← c.self.view_is) at s in
    let known : c.args.x.0 < length vars = rw (← c.self.view_is) at c.requires in
    let none_left : both (possible (var_at vars c.args.x.0)) c.args.k ≡ none = (c.allows_none.ensures.0 is) in
    excluded vars now c.args.x.0 c.args.k known c.self.invariant.decided.order none_left t g stands
