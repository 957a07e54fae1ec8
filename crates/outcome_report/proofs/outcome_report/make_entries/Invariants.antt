use Rattle.scenario_runs.specs.Runs.{scenario_run}
use Rattle.outcome_report.proofs.Entries.{EntriesSoFar}
use Rattle.outcome_report.proofs.outcome_report.make_entries.Given as goal

abbrev pub invariant-loop-outcome : goal.invariant-loop-outcome
invariant-loop-outcome l = EntriesSoFar (scenario_run l.job) l.fn.outcomes l.entries l.outcome-iterator.rest.items
