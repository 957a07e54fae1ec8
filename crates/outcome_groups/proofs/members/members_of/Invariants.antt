use Rattle.std.proofs.Common.{◌≡◌, ◌++◌, drop}
use Rattle.outcome_groups.specs.Groups.{members_from}
use Rattle.outcome_groups.proofs.members.members_of.Given as goal

abbrev pub invariant-loop-k : goal.invariant-loop-k
invariant-loop-k l = l.places ++ members_from l.k l.end (drop l.k l.ends) ≡ members_from 0 l.end l.ends
