use Rattle.std.proofs.Common.{refl}
use Rattle.tree_clauses.specs.Literals.{value_of_variable}
use Rattle.scenario_outcomes.proofs.outcome.make_outcome.Goals as goal

pub returns-clause-outcome : goal.returns-clause-outcome
returns-clause-outcome c = record {
  number = refl;
  ending = refl;
  trace = c.in_ok-trace.ensures;
  covers = c.in_ok-clause.ensures.covers;
  shown = (value_of_variable c.in_ok-shown.ensures.pair.0 c.args.path.state.store.current, (c.in_ok-shown.ensures.pair.0, c.in_ok-shown.ensures.pair.1, refl));
}
