use Rattle.dpkg_scenarios.proofs.Walks.{first_step}
use Rattle.input_tests.proofs.walks.walked.Goals as goal

pub loop-end-init : goal.loop-end-init
loop-end-init c = first_step c.args.scenario

pub loop-end-preserved : goal.loop-end-preserved
loop-end-preserved c = (c.scenarios_end.ensures.forward c.args.scenario c.loop-end.step c.in-Go.more _ c.args.plain c.in-Go.ensures).1
