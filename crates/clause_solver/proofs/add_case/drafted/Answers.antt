use Rattle.std.proofs.Common.{refl, subst}
use Rattle.clause_solver.specs.declared.lists.Lists.{Lists}
use Rattle.clause_solver.specs.Drafts.{IsDrafted}
use Rattle.clause_solver.proofs.Drafted.{begins, first_and_rest, goes_on, ends}
use Rattle.clause_solver.proofs.add_case.drafted.Goals as goal

pub loop-left-init : goal.loop-left-init
loop-left-init c =
    let d = c.in_ok-draft.ensures in
    rw c.as_slice-left.ensures
    (begins c.in_ok-draft.draft.lists.vars c.args.given.now c.args.case.now c.requires.plain c.in_ok-draft.draft refl d.1 (rw d.0 c.requires.inside) (rw d.0 c.requires.decided))

pub loop-left-preserved : goal.loop-left-preserved
loop-left-preserved c =
    let e = first_and_rest c.loop-left.left.now _ c.literal-item.result refl c.in-len1-up.len_at_least c.literal-item.is in
    goes_on c.in_ok-draft.draft.lists.vars c.args.given.now c.args.case.now c.loop-left.left.now _ _ c.literal-item.result c.loop-left.draft c.pass.new.draft e c.loop-left.invariant c.in_ok-left.ensures.goes

pub returns : goal.returns
returns c =
    subst (λ (l : Lists). IsDrafted l.vars c.args.given.now c.args.case.now c.loop-left.draft) c.in_ok-draft.ensures.0
    (ends c.in_ok-draft.draft.lists.vars c.args.given.now c.args.case.now c.loop-left.left.now c.loop-left.draft c.in_default.len_below c.loop-left.invariant)
