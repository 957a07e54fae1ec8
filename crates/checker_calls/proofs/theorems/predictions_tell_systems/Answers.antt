use Rattle.package_jobs.specs.Written.{written_run}
use Rattle.package_jobs.specs.StartTrees.{IsStartTree}
use Rattle.prediction_text.proofs.Telling.{all_told}
use Rattle.checker_calls.proofs.theorems.predictions_tell_systems.Goals as goal

pub returns : goal.returns
returns c packages turns limit scenario part is tree pick picked =
    all_told (written_run scenario packages turns) (IsStartTree scenario packages) part tree pick is.exact picked
