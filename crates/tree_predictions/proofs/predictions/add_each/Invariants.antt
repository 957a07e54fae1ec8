use Rattle.std.proofs.Common.{◌≡◌, ◌++◌}
use Rattle.tree_predictions.proofs.predictions.add_each.Given as goal

abbrev pub invariant-loop-pick : goal.invariant-loop-pick
invariant-loop-pick l = l.all ++ l.pick-iterator.rest.items ≡ l.initial.all ++ l.fn.picks
