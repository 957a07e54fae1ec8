use Rattle.std.proofs.Common.{◌≡◌, ◌+◌, drop}
use Rattle.tree_predictions.specs.Looks.{held_of}
use Rattle.tree_predictions.proofs.looks.held_of.Given as goal

abbrev pub invariant-loop-at : goal.invariant-loop-at
invariant-loop-at l = held_of l.tree l.looks ≡ l.at + held_of l.tree (drop l.at l.looks)
