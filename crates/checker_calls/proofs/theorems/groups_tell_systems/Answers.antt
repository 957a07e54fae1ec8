use Rattle.package_jobs.specs.Written.{written_run}
use Rattle.package_jobs.specs.StartTrees.{IsStartTree}
use Rattle.outcome_groups.proofs.Claim.{groups_are_told}
use Rattle.checker_calls.proofs.theorems.groups_tell_systems.Goals as goal

pub returns : goal.returns
returns c packages turns limit scenario part is =
    groups_are_told (written_run scenario packages turns) (IsStartTree scenario packages) part is.exact.exact
