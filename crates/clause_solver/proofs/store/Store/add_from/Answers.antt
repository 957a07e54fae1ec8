use Rattle.std.proofs.Common.{MatchOption, subst}
use Rattle.clause_solver.specs.Adds.{AddsFrom, LeadsNowhereFrom}
use Rattle.clause_solver.specs.Stands.{Seen}
use Rattle.clause_solver.proofs.store.Store.add_from.Goals as goal

pub returns : goal.returns
returns c =
    subst (λ (s : Seen). MatchOption c.in_ok-found.found (LeadsNowhereFrom s c.args.given.now c.args.case.now) (AddsFrom s c.args.given.now c.args.case.now)) c.in_ok-fork.ensures c.in_ok-found.ensures
