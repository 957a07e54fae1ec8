use Rattle.std.proofs.Common.{sym, subst}
use Rattle.act_cases.specs.Cases.{AreCases}
use Rattle.case_paths.proofs.StepCases.{act_cases_are}
use Rattle.case_paths.proofs.Forking.{next_leads, next_forks}
use Rattle.case_paths.proofs.deeds.forks_by_act.Goals as goal

pub fork-requires-clause-led : goal.fork-requires-clause-led
fork-requires-clause-led c =
    let are = act_cases_are c.args.state c.now.result c.now.ensures.now c.args.act.now c.as_slice.result.now c.now.ensures.known
    (subst (AreCases c.args.act.now) (sym c.as_slice.ensures) c.in_ok-rows.ensures) in
    next_leads _ c.args.state _ c.as_slice.result.now are c.args.marks.now c.len.result _ c.len.ensures c.requires.next

pub returns : goal.returns
returns c =
    let are = act_cases_are c.args.state c.now.result c.now.ensures.now c.args.act.now c.as_slice.result.now c.now.ensures.known
    (subst (AreCases c.args.act.now) (sym c.as_slice.ensures) c.in_ok-rows.ensures) in
    next_forks _ c.args.state _ c.as_slice.result.now are c.args.marks.now c.len.result _ c.in_ok-forks.forks c.len.ensures c.requires.next c.in_ok-forks.ensures
