use Rattle.tree_predictions.proofs.Planned.{put_together}
use Rattle.tree_predictions.proofs.plan.step_of.Goals as goal

pub returns-clause-looks : goal.returns-clause-looks
returns-clause-looks c =
    put_together c.args.before.now c.args.looks.now c.in_ok-more.more c.same_front-shared.result c.same_front-shared.ensures.same c.in_ok-more.ensures
