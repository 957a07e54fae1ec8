use Rattle.checker_calls.proofs.Quiet.{quiet_scenario, quiet_report}
use Rattle.checker_calls.proofs.theorems.a_quiet_scenario_fails_nowhere.Goals as goal

pub returns-clause-scenario : goal.returns-clause-scenario
returns-clause-scenario c = quiet_scenario c.more_turns_change_no_written_run.ensures

pub returns-clause-report : goal.returns-clause-report
returns-clause-report c = quiet_report c.more_turns_change_no_written_run.ensures
