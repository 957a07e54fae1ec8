use Rattle.std.proofs.Common.{sym, subst}
use Rattle.scenario_runs.specs.Later.{IsLater}
use Rattle.scenario_runs.proofs.Lines.{behind_later}
use Rattle.scenario_runs.proofs.steps.take_step.Goals as goal

pub returns-clause-later : goal.returns-clause-later
returns-clause-later c =
    let w = c.in_ok-end.ensures.work in
    subst (IsLater c.args.job.now.scenario c.args.step) (sym (c.next_behind-next.ensures w.step w.is_line))
    (behind_later c.scenarios_end.ensures.forward c.args.job.now.scenario c.args.step c.args.job.now.plain w.step c.in_ok-end.field-0.end w.is_line)
