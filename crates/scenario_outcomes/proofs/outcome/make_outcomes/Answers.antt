use Rattle.scenario_outcomes.proofs.Exact.{outcomes_step}
use Rattle.scenario_outcomes.proofs.outcome.make_outcomes.Goals as goal

pub loop-path-preserved : goal.loop-path-preserved
loop-path-preserved c =
    outcomes_step c.args.paths c.loop-path.yielded c.loop-path.path-iterator.rest.items c.next.new.self.rest.items c.in-Some.path
    c.loop-path.outcomes c.add.new.self c.in_ok-outcome.outcome c.loop-path.place
    c.in-Some.ensures.steps.0 c.in_ok-add.ensures.ok c.in_ok-outcome.ensures.outcome c.loop-path.invariant
