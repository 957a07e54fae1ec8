use Rattle.std.proofs.Common.{◌≡◌, drop}
use Rattle.feature_trees.proofs.OnlyPipes.{items_pipes}
use Rattle.feature_trees.proofs.pipes.+pipes.Given as goal

abbrev pub invariant-have_pipes-loop-item : goal.invariant-have_pipes-loop-item
invariant-have_pipes-loop-item l = items_pipes (drop l.item-index l.items) ≡ items_pipes l.items
