use Rattle.std.proofs.Common.{◌≡◌, ◌++◌}
use Rattle.std.specs.List.{flat_map}
use Rattle.tree_predictions.proofs.predictions.joined.Given as goal

abbrev pub invariant-loop-picks : goal.invariant-loop-picks
invariant-loop-picks l = l.all ++ flat_map (λ picks. picks) l.picks-iterator.rest.items ≡ flat_map (λ picks. picks) l.fn.answers
