use Rattle.scenario_runs.specs.Runs.{scenario_run}
use Rattle.start_trees.specs.Needs.{IsStart}
use Rattle.outcome_report.proofs.Entries.{all_replay}
use Rattle.outcome_report.proofs.outcome_report.make_part.Goals as goal

pub make_entries-requires : goal.make_entries-requires
make_entries-requires c =
    all_replay (scenario_run c.args.job.now) (IsStart c.args.needs.now) (λ tree is. is.is_tree.dir) c.in-Ok.outcomes c.in-Ok.ensures.0
