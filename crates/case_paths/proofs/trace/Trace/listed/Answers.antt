use Rattle.case_paths.proofs.Listed.{one_listed}
use Rattle.case_paths.proofs.trace.Trace.listed.Goals as goal

pub loop-at-preserved : goal.loop-at-preserved
loop-at-preserved c =
    rw c.in_ok-add-in-Some.ensures.ok
    (one_listed c.loop-at.at c.args.self.now c.loop-at.marks c.in-Some.mark.now (rw (← c.self.view_is) c.in-Some.ensures.value) c.loop-at.invariant)
