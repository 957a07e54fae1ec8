use Rattle.std.proofs.Common.{ap, ◌∙◌}
use Rattle.scenario_runs.specs.Runs.{scenario_run}
use Rattle.start_trees.specs.Needs.{IsStart}
use Rattle.scenario_outcomes.specs.OutcomeOf.{path_endings}
use Rattle.scenario_outcomes.proofs.Answering.{endings_answer}
use Rattle.scenario_outcomes.proofs.listing.endings.Goals as goal

pub returns-in_ok-endings-in-Ok : goal.returns-in_ok-endings-in-Ok
returns-in_ok-endings-in-Ok c =
    endings_answer (scenario_run c.args.job.now) (IsStart c.args.needs.now) c.args.limit c.in-Ok.paths c.in_ok-endings-in-Ok.endings
    c.in-Ok.ensures (c.in_ok-endings-in-Ok.ensures ∙ ap path_endings c.as_slice.ensures)
