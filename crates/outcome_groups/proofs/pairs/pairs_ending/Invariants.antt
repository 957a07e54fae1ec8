use Rattle.std.proofs.Common.{◌≡◌, ◌++◌, length}
use Rattle.std.specs.List.{filter}
use Rattle.outcome_groups.specs.Groups.{ends_so}
use Rattle.outcome_groups.proofs.pairs.pairs_ending.Given as goal

abbrev pub invariant-loop-left : goal.invariant-loop-left
invariant-loop-left l =
    l.own ++ filter (ends_so l.end) l.left ≡ filter (ends_so l.end) l.pairs

abbrev pub decreases-loop-left : goal.decreases-loop-left
decreases-loop-left l = length l.left
