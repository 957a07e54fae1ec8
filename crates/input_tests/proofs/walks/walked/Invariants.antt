use Rattle.dpkg_scenarios.specs.Steps.{IsStep}
use Rattle.input_tests.proofs.walks.walked.Given as goal

abbrev pub invariant-loop-end : goal.invariant-loop-end
invariant-loop-end l = IsStep l.scenario l.step
