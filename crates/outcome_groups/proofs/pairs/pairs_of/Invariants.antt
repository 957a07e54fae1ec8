use Rattle.std.proofs.Common.{◌≡◌, ◌++◌, drop}
use Rattle.outcome_groups.specs.Groups.{pairs_from}
use Rattle.outcome_groups.proofs.pairs.pairs_of.Given as goal

abbrev pub invariant-loop-k : goal.invariant-loop-k
invariant-loop-k l = l.pairs ++ pairs_from l.k l.scenario (drop l.k l.entries) ≡ pairs_from 0 l.scenario l.entries
