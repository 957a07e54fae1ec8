use Rattle.scenario_runs.specs.Runs.{scenario_run}
use Rattle.start_trees.specs.Needs.{IsStart}
use Rattle.prediction_text.proofs.Telling.{all_told}
use Rattle.prediction_text.proofs.theorems.predictions_tell_runs.Goals as goal

pub returns : goal.returns
returns c = all_told (scenario_run c.args.job.now) (IsStart c.args.needs.now)
