use Rattle.std.proofs.Common.{◌≡◌, drop}
use Rattle.outcome_groups.specs.Ends.{makes, up_to_call}
use Rattle.outcome_groups.proofs.ends.up_to_call.Given as goal

abbrev pub invariant-loop-seen : goal.invariant-loop-seen
invariant-loop-seen l =
    (up_to_call l.scenario l.call l.found l.seen (drop l.seen l.trace) ≡ up_to_call l.scenario l.call 0 0 l.trace)
    × (l.known.1 ≡ makes l.scenario l.call l.known.0)
