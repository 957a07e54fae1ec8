use Rattle.clause_solver.proofs.DraftSteps.{known_makes, child_makes, nothing_makes, entry_makes}
use Rattle.clause_solver.proofs.drafts.Draft.enter.Goals as goal

pub returns-in-Some : goal.returns-in-Some
returns-in-Some c = child_makes c.args.self.now c.put-in-Some.new.self c.args.v.0 c.args.x.0 c.place-n.result c.args.f.now c.requires.steady c.place-n.ensures c.in-At.m c.in-Some.y c.in_ok-put-in-At.ensures c.in-At.ensures c.in-Some.ensures

pub returns-in_ok-put-in-Known : goal.returns-in_ok-put-in-Known
returns-in_ok-put-in-Known c = known_makes c.args.self.now c.put.new.self c.args.v.0 c.args.x.0 c.place-n.result c.args.f.now c.requires.steady c.place-n.ensures c.in-Known.y c.in_ok-put-in-Known.ensures c.in-Known.ensures

pub returns-in_ok-define-in-Nothing : goal.returns-in_ok-define-in-Nothing
returns-in_ok-define-in-Nothing c = nothing_makes c.args.self.now c.define.new.self c.args.v.0 c.args.x.0 c.place-n.result c.args.f.now c.requires.steady c.place-n.ensures c.in_ok-define-in-Nothing.ensures c.in-Nothing.ensures

pub returns-in_ok-define-in-At : goal.returns-in_ok-define-in-At
returns-in_ok-define-in-At c = entry_makes c.args.self.now c.define-in-At.new.self c.args.v.0 c.args.x.0 c.place-n.result c.args.f.now c.requires.steady c.place-n.ensures c.in-At.m (rw c.in_ok-name-in-At.ensures at c.in_ok-define-in-At.ensures) c.in-At.ensures
