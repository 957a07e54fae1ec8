use Rattle.std.proofs.Common.{◌≡◌, take}
use Rattle.outcome_groups.specs.Groups.{ends_of}
use Rattle.outcome_groups.proofs.members.ends_of.Given as goal

abbrev pub invariant-loop-entry : goal.invariant-loop-entry
invariant-loop-entry l =
    l.ends ≡ ends_of l.scenario (take l.entry-index l.entries)
