use Rattle.std.proofs.Common.{sym, ◌∙◌}
use Rattle.clause_solver.proofs.Drafted.{not_so}
use Rattle.clause_solver.proofs.Turns.{kinds_go, absent_goes, reg_goes, dir_goes}
use Rattle.clause_solver.proofs.add_case.pass_kinds.Goals as goal

pub returns-then-has-clause-goes : goal.returns-then-has-clause-goes
returns-then-has-clause-goes c = kinds_go c.args.draft.now c.narrow.new.self c.args.x c.args.kinds c.args.rest.now (c.has.ensures.0 c.if-has.true) c.in_ok-narrow.ensures

pub returns-then-has-2-clause-goes : goal.returns-then-has-2-clause-goes
returns-then-has-2-clause-goes c =
    absent_goes c.args.draft.now c.make.new.self c.args.x c.args.kinds c.args.rest.now (not_so c.has.result _ c.has.ensures c.if-has.false) (sym c.has-2.ensures ∙ c.if-has-2.true) c.in_ok-make.ensures

pub returns-then-has-3-clause-goes : goal.returns-then-has-3-clause-goes
returns-then-has-3-clause-goes c =
    reg_goes c.args.draft.now c.make-then-has-3.new.self c.args.x c.args.kinds c.args.rest.now (not_so c.has.result _ c.has.ensures c.if-has.false) (sym c.has-3.ensures ∙ c.if-has-3.true) c.in_ok-make-2.ensures

pub returns-clause-goes : goal.returns-clause-goes
returns-clause-goes c =
    rw c.behind_first.ensures.behind
    (dir_goes c.args.draft.now c.make-2.new.self c.args.x c.args.kinds c.args.rest.now (not_so c.has.result _ c.has.ensures c.if-has.false)
    (λ t. let bad = sym t ∙ sym c.has-2.ensures ∙ c.if-has-2.false in cc) (λ t. let bad = sym t ∙ sym c.has-3.ensures ∙ c.if-has-3.false in cc) c.in_ok-make-3.ensures)
