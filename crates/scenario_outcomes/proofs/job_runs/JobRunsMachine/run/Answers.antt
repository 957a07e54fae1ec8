use Rattle.scenario_outcomes.proofs.Played.{run_gives}
use Rattle.scenario_outcomes.proofs.job_runs.JobRunsMachine.run.Goals as goal

pub returns : goal.returns
returns c =
    run_gives c.scenario_runs_are_decided.ensures.played c.args.self.now.job.now c.args.self.now.performed c.args.start.now c.in_ok-ending.field-0
    c.in_ok-ending.ensures
