use Rattle.std.proofs.Common.{List, All, sym, subst}
use Rattle.utility_calls.specs.declared.backs.Back.{Back}
use Rattle.utility_calls.specs.Backs.{IsNamed}
use Rattle.scenario_runs.specs.Naming.{restored_named}
use Rattle.scenario_runs.specs.Runs.{restored}
use Rattle.scenario_runs.proofs.restoring.restore.Goals as goal

pub do_backs-requires-clause-named : goal.do_backs-requires-clause-named
do_backs-requires-clause-named c =
    let unpacked = c.args.course.unpacked in
    subst (All IsNamed) (sym c.in_ok-put.ensures)
    (subst (λ (backs : List Back). All IsNamed (restored backs unpacked)) (sym c.as_slice.ensures.backs)
    (restored_named c.args.backs.now unpacked c.as_slice.ensures.sound.named))
