use Rattle.std.proofs.Common.{◌≡◌, drop, Some}
use Rattle.settled_commands.specs.Joined.{joined, all_joined}
use Rattle.settled_commands.specs.Settled.{settled_part}
use Rattle.settled_commands.specs.KnownNames.{is_unset}
use Rattle.settled_commands.proofs.settled.settled_text.Given as goal

abbrev pub invariant-loop-part : goal.invariant-loop-part
invariant-loop-part l = joined (Some l.text) (all_joined (settled_part (is_unset l.given)) (drop l.part-index l.parts)) ≡ all_joined (settled_part (is_unset l.given)) l.parts
