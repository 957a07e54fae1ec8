use Rattle.clause_solver.proofs.Added.{in_words, nowhere, added}
use Rattle.clause_solver.proofs.store.Store.add_case.Goals as goal

pub returns : goal.returns
returns c =
    let s = c.args.self.now in
    let made = c.args.case.now in
    let now = c.now.result in
    let is = c.now.ensures.now in
    in_words c.in_ok-found.found (nowhere s made now is) (added s made now is c.now.ensures.known) c.in_ok-found.ensures
