use Rattle.std.proofs.Common.{refl}
use Rattle.clause_solver.specs.declared.drafts.Draft.{Draft}
use Rattle.clause_solver.specs.declared.lists.Lists.{Lists}
use Rattle.clause_solver.proofs.DraftSteps.{appended_adds}
use Rattle.clause_solver.proofs.ListSteps.{appended_decided}
use Rattle.clause_solver.proofs.drafts.Draft.define.Goals as goal

pub returns : goal.returns
returns c =
    let old = c.args.self.now in
    let lists : Lists = c.append_in_place.new.self in
    let mid : Draft = record { lists = lists; places = old.places } in
    let decided = appended_decided old.lists lists c.in_ok-y.y c.args.d c.requires.steady.decided c.requires.before c.requires.single c.in_ok-y.ensures.ok in
    appended_adds old mid c.put.new.self c.args.v.0 c.in_ok-y.y c.args.d c.requires.steady c.requires.before c.requires.single refl c.in_ok-y.ensures.ok decided c.in_ok-put.ensures
