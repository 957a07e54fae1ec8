use Rattle.scenario_runs.specs.Runs.{scenario_run}
use Rattle.start_trees.specs.Needs.{IsStart}
use Rattle.report_text.proofs.PathReplays.{paths_replay}
use Rattle.report_text.proofs.PathsTold.{part_told}
use Rattle.report_text.proofs.told_part.tell_part.Goals as goal

pub tell_paths-requires-clause-replays : goal.tell_paths-requires-clause-replays
tell_paths-requires-clause-replays c =
    paths_replay (scenario_run c.args.job.now) (IsStart c.args.needs.now) c.args.limit (λ tree is. is.is_tree.dir)
    c.in-Ok.paths c.in-Ok.ensures

pub returns-in_ok-told-in-Ok : goal.returns-in_ok-told-in-Ok
returns-in_ok-told-in-Ok c =
    part_told c.args.telling (scenario_run c.args.job.now) (IsStart c.args.needs.now) c.args.limit c.args.job.now.scenario c.in-Ok.paths
    c.in_ok-told-in-Ok.told c.in-Ok.ensures c.in_ok-told-in-Ok.ensures
