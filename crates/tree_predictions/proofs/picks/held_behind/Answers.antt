use Rattle.std.proofs.Common.{◌+◌, ◌<◌, ◌≤◌, subst, ap, ◌∙◌}
use Rattle.tree_predictions.specs.Looks.{held_of}
use Rattle.tree_predictions.proofs.Held.{stays, goes_on, not_shared, not_more, differ}
use Rattle.tree_predictions.proofs.picks.held_behind.Goals as goal

pub returns-then-held-step : goal.returns-then-held-step
returns-then-held-step c =
    let tree = c.args.tree.now in
    let step = c.args.step.now in
    λ before le e.
    let lt = subst (λ h. h < step.shared) e c.if-held-step.true in record {
      count = e ∙ stays tree step.more before step.shared le lt;
      fails = λ _. not_shared tree step.more before step.shared le lt;
    }

pub returns : goal.returns
returns c =
    let tree = c.args.tree.now in
    let step = c.args.step.now in
    let counted = c.held_of-more.ensures.count ∙ ap (held_of tree) c.as_slice.ensures in
    λ before le e.
    let high = subst (λ h. step.shared ≤ h) e c.if-held-step.false in record {
      count = ap (λ n. step.shared + n) counted ∙ goes_on tree step.more before step.shared le high;
      fails = λ f. not_more tree step.more before step.shared le high (differ _ _ _ _ f counted c.len.ensures);
    }
