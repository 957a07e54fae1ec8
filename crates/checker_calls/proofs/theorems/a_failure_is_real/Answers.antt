use Rattle.checker_calls.proofs.Failures.{failed_scenario, failed_report}
use Rattle.checker_calls.proofs.theorems.a_failure_is_real.Goals as goal

pub returns-clause-scenario : goal.returns-clause-scenario
returns-clause-scenario c = failed_scenario c.more_turns_change_no_written_run.ensures

pub returns-clause-report : goal.returns-clause-report
returns-clause-report c = failed_report c.more_turns_change_no_written_run.ensures
