use Rattle.std.proofs.Common.{◌≡◌, take}
use Rattle.std.specs.List.{flat_map}
use Rattle.settled_commands.specs.Settled.{settled}
use Rattle.settled_commands.specs.KnownNames.{is_unset}
use Rattle.settled_commands.proofs.settled.settled_of.Given as goal

abbrev pub invariant-loop-command : goal.invariant-loop-command
invariant-loop-command l = l.all ≡ flat_map (settled (is_unset l.given)) (take l.command-index l.commands)
