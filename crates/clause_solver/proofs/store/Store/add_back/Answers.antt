use Rattle.clause_solver.proofs.Added.{in_words, nowhere_back, added_back}
use Rattle.clause_solver.proofs.store.Store.add_back.Goals as goal

pub returns : goal.returns
returns c =
    let s = c.args.self.now in
    let made = c.args.case.now in
    let now = c.now.result in
    let is = c.now.ensures.now in
    in_words c.in_ok-found.found (nowhere_back s made now c.args.kept is) (added_back s made now c.args.kept is) c.in_ok-found.ensures
