use Rattle.checker_calls.proofs.Quiet.{unfailed_scenario, unfailed_report}
use Rattle.checker_calls.proofs.theorems.an_unfailed_scenario_fails_nowhere.Goals as goal

pub returns-clause-scenario : goal.returns-clause-scenario
returns-clause-scenario c = unfailed_scenario c.more_turns_change_no_written_run.ensures

pub returns-clause-report : goal.returns-clause-report
returns-clause-report c = unfailed_report c.more_turns_change_no_written_run.ensures
