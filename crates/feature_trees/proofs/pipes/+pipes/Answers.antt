use Rattle.std.proofs.Common.{sym, ◌∙◌}
use Rattle.feature_trees.proofs.OnlyPipes.{ended, stopped}
use Rattle.feature_trees.proofs.pipes.+pipes.Goals as goal

pub have_pipes-returns-then-not-has_pipes : goal.have_pipes-returns-then-not-has_pipes
have_pipes-returns-then-not-has_pipes t c =
    stopped c.args.items.now c.loop-item.item-index c.item-item.result c.requires c.loop-item-test.true c.item-item.is (sym c.if-not-has_pipes.true ∙ c.has_pipes.ensures) c.loop-item.invariant

pub have_pipes-returns : goal.have_pipes-returns
have_pipes-returns t c = ended c.args.items.now c.loop-item.item-index c.requires c.loop-item-test.false c.loop-item.invariant
