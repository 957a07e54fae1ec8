use Rattle.std.proofs.Common.{◌≡◌, ◌++◌}
use Rattle.tree_predictions.specs.Looks.{looks_in}
use Rattle.tree_predictions.proofs.looks.looks_in.Given as goal

abbrev pub invariant-loop-fact : goal.invariant-loop-fact
invariant-loop-fact l = l.looks ++ looks_in l.fact-iterator.rest.items ≡ looks_in l.fn.facts
